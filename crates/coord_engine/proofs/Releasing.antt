-- Which settled steps give out what is released.
use Rattle.std.proofs.Common.{◌≡◌, ℕ, Bool, true, false, List, [], ◌∷◌, ◌++◌, ◌-◌, arith, length, take, map, refl, sym, ap, subst, ◌∙◌, append_assoc}
use Rattle.std.proofs.Math.Seq.{take-add}
use Rattle.std.proofs.lemmas.Grind.{flat_map-append}
use Rattle.std.specs.List.{AllByRecursion}
use Rattle.std.specs.Prelude.{if◌then◌else◌}
use Rattle.atomic_table.specs.Seated.{TableId}
use Rattle.coord_link.specs.LaneMachine.{Lane, is_front_taken}
use Rattle.coord_types.specs.declared.messages.Msg.{Msg}
use Rattle.coord_types.specs.declared.outputs.Output.{Output}
use Rattle.coord_types.specs.declared.outputs.Output.TheVariants.{Receipted, Sent, Signalled}
use Rattle.coord_types.specs.declared.packets.ReceiptPacket.{ReceiptPacket}
use Rattle.coord_types.specs.declared.steps.Step.{Step}
use Rattle.coord_world.specs.protocol.NumberedWorld.{lanes_in_order}
use Rattle.coord_world.specs.protocol.Outputs.{again, again_by, all_again, front_packet, receipt}
use Rattle.coord_world.specs.Facade.{StepOutcome, World, fold, next, outputs, outs, reply}
use Rattle.coord_ledger.specs.declared.mark.Mark.{Mark}
use Rattle.coord_ledger.specs.declared.mark.Mark.TheVariants.{New, Good, Torn}
use Rattle.coord_ledger.specs.declared.release.Release.{Release}
use Rattle.coord_ledger.specs.machine.After.{release_of, releases_of, resent}
use Rattle.coord_ledger.specs.Facade.{FlightState, IsOut, LedgerState, Log, log_back, pending, releases_in, settled_count, settled_steps, taken_back}
use Rattle.coord_engine.specs.Facade.{AreOfSettled, Beginning, GivesSignal, HasReadSettled, MayAskAll, MayHand, MayPrint, StartsWith, first_settled}

-- ---- beginnings after earlier steps

-- what begins so after the same steps begins so
pub after_both : (earlier xs first : List Step) → StartsWith xs first → StartsWith (earlier ++ xs) (earlier ++ first)
after_both earlier xs first is = (is.0, ap (λ l. earlier ++ l) is.1 ∙ sym (append_assoc earlier first is.0))

abbrev rest_of : List Step → List Step
rest_of [] = []
rest_of (x ∷ xs) = xs

pub of_both : (earlier xs first : List Step) → StartsWith (earlier ++ xs) (earlier ++ first) → StartsWith xs first
of_both [] xs first is = is
of_both (e ∷ es) xs first is = of_both es xs first (is.0, ap rest_of is.1)

-- what a token read that was taken back are the first of the settled steps
pub begins_after : (history : TableId) (earlier xs first : List Step) (written back read : Beginning) → HasReadSettled history earlier xs written → back ≡ written → HasReadSettled history earlier first read → StartsWith back.steps read.steps → StartsWith xs first
begins_after history earlier xs first written back read is same of starts =
    of_both earlier xs first (subst (λ (b : Beginning). StartsWith b.steps (earlier ++ first)) (same ∙ is) (subst (λ (b : Beginning). StartsWith back.steps b.steps) of starts))

-- ---- what steps give out

abbrev gives : World → List Step → List Release
gives w steps = releases_of (outs w steps)

outs-append : (xs ys : List Step) (w : World) → outs w (xs ++ ys) ≡ outs w xs ++ outs (fold w xs) ys
outs-append [] ys w = refl
outs-append (x ∷ xs) ys w = ap (λ l. record { reply = reply w x; outputs = outputs w x } ∷ l) (outs-append xs ys (next w x))

gives-append : (w : World) (xs ys : List Step) → gives w (xs ++ ys) ≡ gives w xs ++ gives (fold w xs) ys
gives-append w xs ys = ap releases_of (outs-append xs ys w) ∙ flat_map-append (λ (r : StepOutcome). map (release_of r.reply.step) r.outputs) (outs w xs) (outs (fold w xs) ys)

-- a signal of some steps is one of more
pub gives_more : (w : World) (xs ys : List Step) (step node epoch : ℕ) → GivesSignal w xs step node epoch → GivesSignal w (xs ++ ys) step node epoch
gives_more w xs ys step node epoch is = record {
  before = is.before;
  after = is.after ++ gives (fold w xs) ys;
  given =
      let one : Release = release_of step (Signalled node epoch) in
      gives-append w xs ys ∙ ap (λ l. l ++ gives (fold w xs) ys) is.given ∙ append_assoc is.before (one ∷ is.after) (gives (fold w xs) ys);
}

-- of steps that begin with them
pub gives_on : (w : World) (xs first : List Step) (step node epoch : ℕ) → StartsWith xs first → GivesSignal w first step node epoch → GivesSignal w xs step node epoch
gives_on w xs first step node epoch on is = subst (λ l. GivesSignal w l step node epoch) (sym on.1) (gives_more w first on.0 step node epoch is)

-- and of earlier steps with them
pub gives_after : (w : World) (xs ys : List Step) (step node epoch : ℕ) → GivesSignal (fold w xs) ys step node epoch → GivesSignal w (xs ++ ys) step node epoch
gives_after w xs ys step node epoch is = record {
  before = gives w xs ++ is.before;
  after = is.after;
  given =
      let one : Release = release_of step (Signalled node epoch) in
      gives-append w xs ys ∙ ap (λ l. gives w xs ++ l) is.given ∙ sym (append_assoc (gives w xs) is.before (one ∷ is.after));
}

-- what steps release that come after others
last_given : (w : World) (xs ys : List Step) → MayAskAll (GivesSignal w (xs ++ ys)) (gives (fold w xs) ys)
last_given w xs ys = λ before after step node epoch is. gives_after w xs ys step node epoch (record { before = before; after = after; given = is })

none_given : (may : ℕ → ℕ → ℕ → Type 0) → MayAskAll may []
none_given may = λ before after step node epoch is. absurd (none before after (release_of step (Signalled node epoch)) is)
  where
    none : (before after : List Release) (r : Release) → [] ≡ before ++ r ∷ after → ⊥
    none [] after r is = cc
    none (b ∷ bs) after r is = cc

-- ---- a flight

settled_back : (log : Log) (n : ℕ) (steps : List Step) → steps ≡ take n (pending log) → settled_steps (log_back log n Good) ≡ settled_steps log ++ steps
settled_back log n steps is = take-add log.settled n log.trail ∙ ap (λ l. settled_steps log ++ l) (sym is)

released_by : {D : Type 0} (base : World) (l : LedgerState D) (f : FlightState D) (mark : Mark) → l.log.base ≡ base → IsOut l f → MayAskAll (GivesSignal base (settled_steps (log_back l.log (length f.steps) mark))) (releases_in f mark)
released_by base l f New same own = none_given (GivesSignal base (settled_steps l.log))
released_by base l f Torn same own = none_given (GivesSignal base (settled_steps l.log))
released_by base l f Good same own =
    let settled = settled_steps l.log in
    let from : f.world ≡ fold base settled = own.world ∙ ap (λ w. fold w settled) same in
    subst (λ steps. MayAskAll (GivesSignal base steps) (releases_of (outs f.world f.steps))) (sym (settled_back l.log (length f.steps) f.steps own.steps))
    (subst (λ w. MayAskAll (GivesSignal base (settled ++ f.steps)) (releases_of (outs w f.steps))) (sym from) (last_given base settled f.steps))

-- what a flight releases, once it was taken back and the settled steps are read
pub released_back : {D : Type 0} (history : TableId) (earlier : List Step) (base : World) (l later : LedgerState D) (f : FlightState D) (released : List Release) (read : Beginning) → l.log.base ≡ base → IsOut l f → later ≡ taken_back l (length f.steps) f.mark f.disk
    → released ≡ releases_in f f.mark → HasReadSettled history earlier (settled_steps later.log) read → AreOfSettled history earlier base read released
released_back {D} history earlier base l later f released read same own taken is has_read = record {
  settled = settled_steps later.log;
  read_them = has_read;
  given = rw is (rw taken (released_by base l f f.mark same own));
}

-- what is settled once the engine is taken apart
pub settled_at_last : (log : Log) (base : World) (trail : List Step) (settled : ℕ) → base ≡ log.base → trail ≡ log.trail → settled ≡ settled_count log → first_settled base trail settled ≡ settled_steps log
settled_at_last log base trail settled same all counted =
    let count : base.count ≡ log.base.count = ap (λ (w : World). w.count) same in
    let n : settled - base.count ≡ log.settled = omega (arith, counted, count) in
    ap (λ k. take k trail) n ∙ ap (take log.settled) all

-- ---- what is sent again

-- an output that is no signal
abbrev IsPacket : Output → Type 0
IsPacket (Sent p) = Unit {0}
IsPacket (Receipted p) = Unit {0}
IsPacket (Signalled node epoch) = ⊥

if_taken : (is_taken : Bool) (p : ReceiptPacket) (rest : List Output) → AllByRecursion IsPacket rest → AllByRecursion IsPacket ((if is_taken then Receipted p ∷ [] else []) ++ rest)
if_taken true p rest all = (tt, all)
if_taken false p rest all = all

of_lane : (k : ℕ × ℕ) (l : Lane) (queue : List Msg) (rest : List Output) → AllByRecursion IsPacket rest → AllByRecursion IsPacket (again_by k l queue ++ rest)
of_lane k l [] rest all = all
of_lane k l (m ∷ ms) rest all = (tt, if_taken (is_front_taken l) (receipt (front_packet k l m)) rest all)

of_lanes : (lanes : List ((ℕ × ℕ) × Lane)) → AllByRecursion IsPacket (all_again lanes)
of_lanes [] = tt
of_lanes (e ∷ es) = of_lane e.0 e.1 e.1.queue (all_again es) (of_lanes es)

abbrev output_or : Output → List Release → Output
output_or o [] = o
output_or o (r ∷ rs) = r.output

abbrev releases_after : List Release → List Release
releases_after [] = []
releases_after (r ∷ rs) = rs

no_signal : (given : List Output) (before after : List Release) (step node epoch : ℕ) → AllByRecursion IsPacket given → map (release_of 0) given ≡ before ++ release_of step (Signalled node epoch) ∷ after → ⊥
no_signal [] [] after step node epoch all is = cc
no_signal [] (b ∷ bs) after step node epoch all is = cc
no_signal (o ∷ os) [] after step node epoch all is = subst IsPacket (ap (output_or o) is) all.0
no_signal (o ∷ os) (b ∷ bs) after step node epoch all is = no_signal os bs after step node epoch all.1 (ap releases_after is)

-- a port may be asked for what flights release
pub may_hand : (history : TableId) (earlier : List Step) (base : World) (may : Beginning → ℕ → ℕ → ℕ → Type 0) (released : List Release) → MayPrint history earlier base may → MayHand history earlier base may released
may_hand history earlier base may released return_all read is = λ before after step node epoch at. subst (λ r. may r step node epoch) (sym is.read_them) (return_all is.settled step node epoch (is.given before after step node epoch at))

-- no signal is sent again
pub may_ask_again : (may : ℕ → ℕ → ℕ → Type 0) (w : World) → MayAskAll may (resent w)
may_ask_again may w = λ before after step node epoch at. absurd (no_signal (again w) before after step node epoch (of_lanes (lanes_in_order w.links)) at)

pub resent_of_settled : (history : TableId) (earlier : List Step) (base w : World) (settled : List Step) (released : List Release) (read : Beginning) → HasReadSettled history earlier settled read → released ≡ resent w → AreOfSettled history earlier base read released
resent_of_settled history earlier base w settled released read has_read is = record {
  settled = settled;
  read_them = has_read;
  given = rw is (may_ask_again (GivesSignal base settled) w);
}
