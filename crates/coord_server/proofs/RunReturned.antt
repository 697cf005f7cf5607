-- All that a server answered over the connections of its instances follows from its one history, in order.
use Rattle.std.proofs.Common.{◌≡◌, ◌⊎◌, ℕ, zero, suc, ◌+◌, List, [], ◌∷◌, ◌++◌, Option, None, Some, Result, Ok, Err, map, length, slice_get, take, refl, sym, ap, ◌∙◌, subst, inl, inr, append-nil, append_assoc, arith}
use Rattle.std.proofs.Math.Seq.{take-append-add}
use Rattle.std.proofs.lemmas.List.{map-append}
use Rattle.std.specs.List.{AllByRecursion}
use Rattle.coord_disk.specs.Model.DiskModel.{DiskModel}
use Rattle.coord_types.specs.declared.steps.Reply.{Reply}
use Rattle.coord_types.specs.declared.steps.Session.{Session}
use Rattle.coord_types.specs.declared.steps.Step.{Step}
use Rattle.coord_types.specs.declared.steps.Step.TheVariants as step
use Rattle.coord_lines.specs.Written.{IsFirstPart}
use Rattle.coord_view.specs.Shown.{shown}
use Rattle.coord_world.specs.Facade.{StepOutcome, World, fold, next, outs, reply}
use Rattle.coord_world.proofs.Facade.{fold-append, kept_reply_law}
use Rattle.coord_ledger.specs.Facade.{IsKeptBy}
use Rattle.coord_admin.specs.Connections.{Connection, Talk}
use Rattle.coord_admin.specs.Replies.{reply_line, reply_lines}
use Rattle.coord_admin.specs.Requests.{asked_by}
use Rattle.coord_admin.specs.declared.answer.Answer.{Answer}
use Rattle.coord_admin.specs.declared.answer.Answer.TheVariants as answer
use Rattle.coord_admin.specs.declared.fault.LineFault.{LineFault}
use Rattle.coord_admin.specs.declared.request.Request.{Request}
use Rattle.coord_admin.specs.declared.request.Request.TheVariants as request
use Rattle.coord_engine.proofs.Histories.{first_of_first, none_of}
use Rattle.coord_engine.specs.Facade.{Basis, StartsWith, based_on, first_settled}
use Rattle.coord_engine.specs.declared.closed.Closed.{Closed}
use Rattle.coord_server.proofs.InOrder.{from_earlier, answered_in_order}
use Rattle.coord_server.proofs.Moments.{all_of_settled, settled_after}
use Rattle.coord_server.proofs.OneHistory.{is_left, leaves_all, left_of, says_what_is_left}
use Rattle.coord_server.specs.EngineDesk.{DeskState}
use Rattle.coord_server.specs.Ending.{IsClosed, Local, ServedWhileOpen, Serves, ServesInstance}
use Rattle.coord_server.specs.InOrder.{AllInOrder, BearOut, GoOn, IsBorneOut, IsOwnReply, Returned, WritesInOrder}
use Rattle.coord_server.specs.Instances.{AreInstances, InstanceRun, all_steps}
use Rattle.coord_server.specs.RunReturned.{AreConnectionsOf, EachReads, HadConnections, RunAnswersFromOneHistory}
use Rattle.coord_server.specs.declared.fault.ServerFault.{ServerFault}
use Rattle.coord_server.specs.declared.fault.ServerFault.TheVariants as fault
use Rattle.coord_server.specs.declared.instance_end.InstanceEnd.{InstanceEnd}
use Rattle.coord_server.specs.declared.instance_end.InstanceEnd.TheVariants as end

-- ---- connections, one after the other

-- what is read later begins with what was read before
pub leads : (first : List Step) (returned : List Returned) (last : List Step) → GoOn first returned last → StartsWith last first
leads first [] last on = on
leads first (t ∷ returned) last on = first_of_first first t.after last on.0 (leads t.after returned last on.1)

to_later : (base : World) (first now last : List Step) (cs : List Connection) → AllInOrder base first cs now → StartsWith last now → AllInOrder base first cs last
to_later base first now last [] is on = first_of_first first now last is on
to_later base first now last (c ∷ cs) is on = (is.0, is.1, to_later base is.0 now last cs is.2 on)

from_before : (base : World) (first now last : List Step) (cs : List Connection) → StartsWith now first → AllInOrder base now cs last → AllInOrder base first cs last
from_before base first now last [] by is = first_of_first first now last by is
from_before base first now last (c ∷ cs) by is = (is.0, from_earlier base first now c.talk is.0 by is.1, is.2)

-- those of one instance, and those of the instances after it
and_later : (base : World) (first now last : List Step) (cs ds : List Connection) → AllInOrder base first cs now → AllInOrder base now ds last → AllInOrder base first (cs ++ ds) last
and_later base first now last [] ds is later = from_before base first now last ds is later
and_later base first now last (c ∷ cs) ds is later = (is.0, is.1, and_later base is.0 now last cs ds is.2 later)

all_lead : (base : World) (first last : List Step) (cs : List Connection) → AllInOrder base first cs last → StartsWith last first
all_lead base first last [] is = is
all_lead base first last (c ∷ cs) is = first_of_first first is.0 last (leads first (is.1.returned ++ is.1.torn) is.0 is.1.go_on) (all_lead base is.0 last cs is.2)

-- ---- an instance, after the steps of those before it

after_these : (before now first : List Step) → StartsWith now first → StartsWith (before ++ now) (before ++ first)
after_these before now first is = (is.0, ap (λ l. before ++ l) is.1 ∙ sym (append_assoc before first is.0))

-- the step at a place after others
there_after : (before steps : List Step) (place : ℕ) (s : Step) → slice_get steps place ≡ Some s → slice_get (before ++ steps) (length before + place) ≡ Some s
there_after [] steps place s there =
    let same : place ≡ 0 + place = omega arith in
    subst (λ n. slice_get steps n ≡ Some s) same there
there_after (x ∷ before) steps place s there =
    let same : suc (length before + place) ≡ length (x ∷ before) + place = omega arith in
    subst (λ n. slice_get (x ∷ (before ++ steps)) n ≡ Some s) same (there_after before steps place s there)

there_before : (before steps : List Step) (place : ℕ) (s : Step) → slice_get before place ≡ Some s → slice_get (before ++ steps) place ≡ Some s
there_before [] steps place s there = absurd cc
there_before (x ∷ before) steps zero s there = there
there_before (x ∷ before) steps (suc place) s there = there_before before steps place s there

take_before : (before steps : List Step) (place : ℕ) (s : Step) → slice_get before place ≡ Some s → take place (before ++ steps) ≡ take place before
take_before [] steps place s there = absurd cc
take_before (x ∷ before) steps zero s there = refl
take_before (x ∷ before) steps (suc place) s there = ap (λ l. x ∷ l) (take_before before steps place s there)

-- the step after some first ones
first_there : (before rest : List Step) (s : Step) → slice_get (before ++ s ∷ rest) (length before) ≡ Some s
first_there [] rest s = refl
first_there (x ∷ before) rest s =
    let same : suc (length before) ≡ length (x ∷ before) = omega arith in
    subst (λ n. slice_get (x ∷ (before ++ s ∷ rest)) n ≡ Some s) same (first_there before rest s)

reply_in : Option StepOutcome → Reply → Reply
reply_in None r = r
reply_in (Some o) r = o.reply

-- what is given out at a place has the reply to the step there
given_there : (w : World) (steps : List Step) (place : ℕ) (s : Step) (o : StepOutcome) → slice_get steps place ≡ Some s → slice_get (outs w steps) place ≡ Some o → reply (fold w (take place steps)) s ≡ o.reply
unfolding reply_in
given_there w [] place s o there given = absurd cc
given_there w (x ∷ steps) zero s o there given =
    let same : x ≡ s = cc there in
    ap (reply w) (sym same) ∙ ap (λ (p : Option StepOutcome). reply_in p (reply w x)) given
given_there w (x ∷ steps) (suc place) s o there given = given_there (next w x) steps place s o there given

module _ (began : World) (before : List Step) where
  abbrev base : World
  base = fold began before

  abbrev lift : Returned → Returned
  lift t = record { line = t.line; answer = t.answer; after = before ++ t.after }

  lines_same : (returned : List Returned) → map (λ (t : Returned). t.line) (map lift returned) ≡ map (λ (t : Returned). t.line) returned
  lines_same [] = refl
  lines_same (t ∷ returned) = ap (λ l. t.line ∷ l) (lines_same returned)

  answers_same : (returned : List Returned) → map (λ (t : Returned). t.answer) (map lift returned) ≡ map (λ (t : Returned). t.answer) returned
  answers_same [] = refl
  answers_same (t ∷ returned) = ap (λ l. t.answer ∷ l) (answers_same returned)

  go_on : (first : List Step) (returned : List Returned) (last : List Step) → GoOn first returned last → GoOn (before ++ first) (map lift returned) (before ++ last)
  go_on first [] last on = after_these before last first on
  go_on first (t ∷ returned) last on = (after_these before t.after first on.0, go_on t.after returned last on.1)

  -- the reply that the world of an instance keeps was given by an earlier instance, or the first world keeps it
  kept_reply : (steps : List Step) (s : Step) (r : Reply) → IsKeptBy base (record { step = r.step; what = s; kind = r.kind }) → IsOwnReply began (before ++ steps) s r
  kept_reply steps s r kept = elim (kept_reply_law began before kept.client) [
    | inl by ↦
        let o = by.0 in
        let last = by.1.1 in
        let one = by.1.0 in
        let other = kept.there in
        let same : o ≡ kept.last = cc in
        let q : Step = step.Order kept.client o.number o.command in
        let is : q ≡ s = ap (λ (x : Session). step.Order kept.client x.number x.command) same ∙ sym kept.order in
        let place = length last.before in
        let there : slice_get before place ≡ Some q = subst (λ l. slice_get l place ≡ Some q) (sym last.order) (first_there last.before last.rest q) in
        let given : reply (fold began (take place before)) q ≡ o.reply = given_there began before place q _ there last.replied in
        let answered : o.reply ≡ r = ap (λ (x : Session). x.reply) same ∙ kept.answered in
        inl (
          place,
          there_before before steps place s (there ∙ ap (λ x. Some x) is),
          ap (λ l. reply (fold began l) s) (take_before before steps place q there) ∙ ap (reply (fold began (take place before))) (sym is) ∙ given ∙ answered,
        )
    | inr none ↦ inr (record { client = kept.client; last = kept.last; there = sym none.0 ∙ kept.there; order = kept.order; answered = kept.answered })
  ]

  own_reply : (steps : List Step) (s : Step) (r : Reply) → IsOwnReply base steps s r → IsOwnReply began (before ++ steps) s r
  own_reply steps s r (inl (place, there, is)) = inl (
    length before + place,
    there_after before steps place s there,
    ap (λ l. reply (fold began l) s) (take-append-add before steps place) ∙ ap (λ (w : World). reply w s) (fold-append before (take place steps) began) ∙ is,
  )
  own_reply steps s r (inr kept) = kept_reply steps s r kept

  bear_out : (steps : List Step) (asked : Result Request LineFault) (a : Answer) → BearOut base steps asked a → BearOut began (before ++ steps) asked a
  bear_out steps (Ok (request.Order client number command)) (answer.Replied r) is = own_reply steps (step.Order client number command) r is
  bear_out steps (Ok request.Show) (answer.Replied r) is = absurd is
  bear_out steps (Ok request.Resend) (answer.Replied r) is = absurd is
  bear_out steps (Ok request.Close) (answer.Replied r) is = absurd is
  bear_out steps (Err f) (answer.Replied r) is = absurd is
  bear_out steps (Ok (request.Order client number command)) (answer.Shown view) is = absurd is
  bear_out steps (Ok request.Show) (answer.Shown view) is = (is.0, is.1 ∙ ap (shown is.0) (sym (fold-append before steps began)))
  bear_out steps (Ok request.Resend) (answer.Shown view) is = absurd is
  bear_out steps (Ok request.Close) (answer.Shown view) is = absurd is
  bear_out steps (Err f) (answer.Shown view) is = absurd is
  bear_out steps asked (answer.Refused r) is = tt
  bear_out steps asked (answer.Resent n) is = tt
  bear_out steps asked answer.Closed is = tt
  bear_out steps asked (answer.Faulted f) is = tt

  all_borne_out : (returned : List Returned) → AllByRecursion (IsBorneOut base) returned → AllByRecursion (IsBorneOut began) (map lift returned)
  all_borne_out [] is = tt
  all_borne_out (t ∷ returned) is = (bear_out t.after (asked_by t.line) t.answer is.0, all_borne_out returned is.1)

  broken : (torn : List Returned) (part : List ℕ) → ((torn ≡ []) × (part ≡ [])) ⊎ ((t : Returned) × (torn ≡ t ∷ []) × IsFirstPart part (reply_line t.answer)) → ((map lift torn ≡ []) × (part ≡ [])) ⊎ ((t : Returned) × (map lift torn ≡ t ∷ []) × IsFirstPart part (reply_line t.answer))
  broken torn part (inl is) = inl (ap (map lift) is.0, is.1)
  broken torn part (inr is) = inr (lift is.0, ap (map lift) is.1, is.2)

  writes : (first : List Step) (talk : Talk) (last : List Step) → WritesInOrder base first talk last → WritesInOrder began (before ++ first) talk (before ++ last)
  writes first talk last w =
      let both = map-append lift w.returned w.torn in
      record {
        returned = map lift w.returned;
        torn = map lift w.torn;
        left = w.left;
        lines = w.lines ∙ ap (λ l. l ++ w.left) (sym (lines_same (w.returned ++ w.torn)) ∙ ap (map (λ (t : Returned). t.line)) both);
        go_on = subst (λ l. GoOn (before ++ first) l (before ++ last)) both (go_on first (w.returned ++ w.torn) last w.go_on);
        borne_out = subst (AllByRecursion (IsBorneOut began)) both (all_borne_out (w.returned ++ w.torn) w.borne_out);
        part = w.part;
        broken = broken w.torn w.part w.broken;
        text_is = w.text_is ∙ ap (λ l. reply_lines l ++ w.part) (sym (answers_same w.returned));
      }

  all_in_order : (first : List Step) (cs : List Connection) (last : List Step) → AllInOrder base first cs last → AllInOrder began (before ++ first) cs (before ++ last)
  all_in_order first [] last is = after_these before last first is
  all_in_order first (c ∷ cs) last is = (before ++ is.0, writes first c.talk is.0 is.1, all_in_order is.0 cs last is.2)

-- ---- the connections of one instance

module _ {D : Type 0} (b : Basis D) {V : Type 0} (talked : V → List Talk → V → Type 0) (failed : V → V → Type 0) (most : ℕ) where
  -- those who call had some connections, and what was written over them
  record HasPrinted (v w : V) (read : List Step) : Type 0 where
    connections : List Connection
    had : HadConnections talked failed v connections w
    returned : AllInOrder b.base [] connections read

  module _ (port : Local) (v w : V) (desk : DeskState Local) where
    in_order : ((served : ServedWhileOpen b talked most port v w desk) → AllInOrder b.base [] served.0 desk.read) × ((served : IsClosed b talked most port v w desk) → AllInOrder b.base [] (served.0 ++ served.1 ∷ []) desk.read)
    in_order = answered_in_order D Local talked b most port v w desk

    while_open : ServedWhileOpen b talked most port v w desk → HasPrinted v w desk.read
    while_open is = record { connections = is.0; had = record { last = w; talks = is.1; ended = inl refl }; returned = in_order.0 is }

    to_close : IsClosed b talked most port v w desk → HasPrinted v w desk.read
    to_close is = record { connections = is.0 ++ is.1 ∷ []; had = record { last = w; talks = is.3; ended = inl refl }; returned = in_order.1 is }

    nobody : talked v [] w → HasPrinted v w desk.read
    nobody is = record { connections = []; had = record { last = w; talks = is; ended = inl refl }; returned = none_of desk.read }

  serves_instance : (port : Local) (v w : V) (desk : DeskState Local) (left : InstanceEnd) → ServesInstance b talked failed most port v w desk left → HasPrinted v w desk.read
  serves_instance port v w desk end.Resting is = while_open port v w desk is.0
  serves_instance port v w desk end.Unfollowed is = absurd is
  serves_instance port v w desk end.Unprinted is = nobody port v w desk is.0
  serves_instance port v w desk (end.Ended None) is = to_close port v w desk is
  serves_instance port v w desk (end.Ended (Some fault.OutOfMemory)) is = nobody port v w desk is.0
  serves_instance port v w desk (end.Ended (Some fault.Socket)) is = record { connections = is.1.0; had = record { last = is.0; talks = is.1.1; ended = inr is.2 }; returned = (in_order port v is.0 desk).0 is.1 }
  serves_instance port v w desk (end.Ended (Some fault.NotBegun)) is = absurd is
  serves_instance port v w desk (end.Ended (Some fault.Device)) is = absurd is
  serves_instance port v w desk (end.Ended (Some fault.Write)) is = absurd is
  serves_instance port v w desk (end.Ended (Some (fault.NotClosed why))) is = absurd is

  serves : (port : Local) (v w : V) (desk : DeskState Local) (why : Option ServerFault) → Serves b talked failed most port v w desk why → HasPrinted v w desk.read
  serves port v w desk None is = serves_instance port v w desk (end.Ended None) is
  serves port v w desk (Some fault.OutOfMemory) (inl is) = serves_instance port v w desk (end.Ended (Some fault.OutOfMemory)) is
  serves port v w desk (Some fault.OutOfMemory) (inr is) = serves_instance port v w desk end.Resting is
  serves port v w desk (Some fault.NotBegun) is = nobody port v w desk is.0
  serves port v w desk (Some fault.Socket) is = serves_instance port v w desk (end.Ended (Some fault.Socket)) is
  serves port v w desk (Some fault.Device) is = serves_instance port v w desk end.Resting is
  serves port v w desk (Some fault.Write) is = serves_instance port v w desk end.Unprinted is
  serves port v w desk (Some (fault.NotClosed why)) is = serves_instance port v w desk is.0 is.1

-- ---- all instances

module _ {D : Type 0} (m : DiskModel D) {V : Type 0} (talked : V → List Talk → V → Type 0) (failed : V → V → Type 0) (most : ℕ) (began : World) where
  record Gone (settled before : List Step) (v : V) (instances : List (InstanceRun D V)) : Type 0 where
    connections : List Connection
    had : AreConnectionsOf talked failed v instances connections
    returned : AllInOrder began before connections settled
    reads : EachReads began settled before instances

  -- what was answered over the connections of an instance, after the steps of the instances before
  lifted : (before read : List Step) (world : World) (cs : List Connection) → world ≡ fold began before → AllInOrder world [] cs read → AllInOrder began before cs (before ++ read)
  lifted before read world cs is returned =
      subst (λ first. AllInOrder began first cs (before ++ read)) (append-nil before)
      (all_in_order began before [] cs read (subst (λ w. AllInOrder w [] cs read) is returned))

  gone : (settled before : List Step) (world : World) (v w : V) (instances : List (InstanceRun D V)) (why : Option ServerFault) (left : Closed D) → world ≡ fold began before → settled ≡ first_settled began (before ++ all_steps instances) left.settled → AreInstances m talked failed most world v instances why left w → Gone settled before v instances
  gone settled before world v w [] why left from all is = absurd is
  gone settled before world v w (instance ∷ []) why left from all is =
      let last = is.0 in
      let b = based_on m world [] in
      let own = serves b talked failed most instance.port v instance.callers instance.desk why last.served in
      let t = says_what_is_left b instance.left (is_left b instance.desk instance.left why last.history) in
      let here : settled ≡ before ++ first_settled instance.left.base instance.left.trail.items instance.left.settled =
      all ∙ ap (λ l. first_settled began (before ++ l) left.settled) (append-nil instance.left.trail.items)
      ∙ ap (λ (c : Closed D). first_settled began (before ++ instance.left.trail.items) c.settled) (sym is.1)
      ∙ settled_after m began before world instance.left (sym from) t
      in
      let on : StartsWith settled (before ++ instance.desk.read) = subst (λ l. StartsWith l (before ++ instance.desk.read)) (sym here) (after_these before _ instance.desk.read last.returned) in
      record {
        connections = own.connections;
        had = (own.connections, [], sym (append-nil own.connections), own.had, refl);
        returned = to_later began before (before ++ instance.desk.read) settled own.connections (lifted before instance.desk.read world own.connections from own.returned) on;
        reads = (t.from ∙ from, on, tt);
      }
  gone settled before world v w (instance ∷ next ∷ later) why left from all is =
      let rests = is.0 in
      let b = based_on m world [] in
      let trail = instance.left.trail.items in
      let own = while_open b talked failed most instance.port v instance.callers instance.desk rests.served in
      let t = says_what_is_left b instance.left (left_of b instance.desk instance.left rests.history) in
      let from_next : instance.left.store.world ≡ fold began (before ++ trail) = leaves_all world instance.left t rests.all_settled ∙ ap (λ (x : World). fold x trail) from ∙ sym (fold-append before trail began) in
      let rest = gone settled (before ++ trail) instance.left.store.world instance.callers w (next ∷ later) why left from_next (all ∙ ap (λ l. first_settled began l left.settled) (sym (append_assoc before trail (all_steps (next ∷ later))))) is.1 in
      let on : StartsWith (before ++ trail) (before ++ instance.desk.read) = after_these before trail instance.desk.read (subst (λ l. StartsWith l instance.desk.read) (all_of_settled m instance.left rests.all_settled) rests.returned) in
      let mine : AllInOrder began before own.connections (before ++ trail) = to_later began before (before ++ instance.desk.read) (before ++ trail) own.connections (lifted before instance.desk.read world own.connections from own.returned) on in
      let following : StartsWith settled (before ++ trail) = all_lead began (before ++ trail) settled rest.connections rest.returned in
      record {
        connections = own.connections ++ rest.connections;
        had = (own.connections, rest.connections, refl, own.had, rest.had);
        returned = and_later began before (before ++ trail) settled own.connections rest.connections mine rest.returned;
        reads = (t.from ∙ from, first_of_first (before ++ instance.desk.read) (before ++ trail) settled on following, rest.reads);
      }

pub run_answers_from_one_history : {D V W : Type 0} (m : DiskModel D) (talked : V → List Talk → V → Type 0) (failed : V → V → Type 0) (contents : W → Option (List ℕ)) (gives : List Step → ℕ → ℕ → ℕ → Type 0) → RunAnswersFromOneHistory m talked failed contents gives
run_answers_from_one_history m talked failed contents gives most store v printer ended run =
    let is = gone m talked failed most store.world (first_settled store.world (all_steps run.instances) ended.closed.settled) [] store.world v ended.callers run.instances ended.served ended.closed refl refl run.served in
    record { connections = is.connections; had = is.had; returned = is.returned; reads = is.reads }
