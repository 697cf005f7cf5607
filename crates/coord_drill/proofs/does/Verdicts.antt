-- A ledger never answers a step with out of memory, and the answers that do not report it.
use Rattle.std.proofs.Common.{◌≡◌, ◌≢◌, Bool, true, false, cond, [], ◌∷◌, Option, Some, None, Result, Ok, Err, refl, sym, ap, ◌∙◌, ◌==◌, ◌&&◌, arith}
use Rattle.std.proofs.lemmas.Bool.{false≢true}
use Rattle.std.specs.List.{AllByRecursion}
use Rattle.coord_types.specs.Facade.{get, same_command}
use Rattle.coord_types.specs.declared.refusals.Refusal.TheVariants.{Exhausted, OutOfMemory}
use Rattle.coord_types.specs.declared.steps.Command.{Command}
use Rattle.coord_types.specs.declared.steps.Session.{Session}
use Rattle.coord_types.specs.declared.steps.Step.TheVariants.{Order, Take, Clear}
use Rattle.coord_link.specs.LaneMachine.{Tests, refused_or}
use Rattle.coord_world.proofs.Facade.{by_test}
use Rattle.coord_world.specs.Facade.{World, accepts, against, against_command, is_exhausted, judged, or_repeat}
use Rattle.coord_drill.specs.Facade.{Answer, Refusal, Refused, Repeat, Step, Verdict}
use Rattle.coord_ledger.specs.Facade.{Log, unless_full, verdict}

-- Computing tests distinguish an answer from out of memory: with a world in scope `cc` costs a second each time.
abbrev is_memory : Refusal → Bool
is_memory OutOfMemory = true
is_memory other = false

abbrev lacks : {V : Type 0} → Result V Refusal → Bool
lacks (Ok v) = false
lacks (Err e) = is_memory e

abbrev Other : Tests → Type 0
Other ts = AllByRecursion (λ t. is_memory t.1 ≡ false) ts

first_other : {V : Type 0} (v : V) (ts : Tests) → Other ts → lacks (refused_or v ts) ≡ false
first_other v [] all = refl
first_other v (t ∷ ts) all = by_test t.0 (λ b. lacks (cond b (Err t.1) (refused_or v ts)) ≡ false) (λ _. all.0) (λ _. first_other v ts all.1)

command_other : (w : World) (x : Command) → Other (against_command w x)
command_other w x = grind arith

against_other : (front settled : World) (x : Step) → Other (against front settled x)
against_other front settled x = grind (arith, command_other)

judged_other : (front settled : World) (x : Step) → lacks (judged front settled x) ≡ false
judged_other front settled x = first_other _ ((is_exhausted front, Exhausted) ∷ against front settled x) (refl, against_other front settled x)

accepts_other : (front settled : World) (x : Step) → lacks (accepts front settled x) ≡ false
accepts_other front settled (Order c n x) = by_session (get front.sessions c)
  where
    by_session : (o : Option Session) → lacks (or_repeat o n x (judged front settled (Order c n x))) ≡ false
    by_session None = judged_other front settled (Order c n x)
    by_session (Some o) =
        by_test ((o.number == n) && same_command o.command x) (λ b. lacks (cond b (Ok (Repeat o.reply)) (judged front settled (Order c n x))) ≡ false) (λ _. refl) (λ _. judged_other front settled (Order c n x))
accepts_other front settled (Take p) = judged_other front settled (Take p)
accepts_other front settled (Clear p) = judged_other front settled (Clear p)

full_other : (full : Bool) (v : Result Verdict Refusal) → lacks v ≡ false → lacks (unless_full full v) ≡ false
full_other full v h1 = grind arith

verdict_other : (log : Log) (x : Step) → lacks (verdict log x) ≡ false
verdict_other log x = grind (arith, by_test, full_other, accepts_other)

pub never_memory : (log : Log) (x : Step) → verdict log x ≢ Err OutOfMemory
never_memory log x same = false≢true (sym (verdict_other log x) ∙ ap lacks same)

-- ---- answers

abbrev is_refused : Answer → Bool
is_refused (Refused e) = true
is_refused other = false

-- an answer that is not a refusal does not say out of memory
pub no_refusal : (a : Answer) → is_refused a ≡ false → a ≢ Refused OutOfMemory
no_refusal a other same = false≢true (sym other ∙ ap is_refused same)

abbrev refusal_in : Answer → Refusal
refusal_in (Refused e) = e
refusal_in other = OutOfMemory

-- a refusal for another reason does not say out of memory
pub other_refusal : (e : Refusal) → e ≢ OutOfMemory → Refused e ≢ Refused OutOfMemory
other_refusal e other same = other (ap refusal_in same)
