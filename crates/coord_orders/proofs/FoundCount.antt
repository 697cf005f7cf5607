-- What a probe is answered.
use Rattle.std.proofs.Common.{◌≡◌, ℕ, ◌+◌, ◌==◌, ◌&&◌, not, nat_le, nat_lt, Bool, true, false, [], ◌∷◌, ◌++◌, Option, Some, None, Result, Ok, Err, refl, ◌∙◌, arith, if◌then◌else◌}
use Rattle.std.proofs.lemmas.Bool.Decides.{nat_tests}
use Rattle.coord_types.specs.Table.{get}
use Rattle.coord_types.specs.Facade.{same_command}
use Rattle.coord_types.specs.declared.refusals.Refusal.{Refusal}
use Rattle.coord_types.specs.declared.refusals.Refusal.TheVariants.{Exhausted, OutOfTurn, NumberReused, UnknownNode, BadEpoch}
use Rattle.coord_types.specs.declared.steps.Session.{Session}
use Rattle.coord_types.specs.declared.steps.Step.TheVariants.{Order}
use Rattle.coord_types.proofs.Commands.{same_is}
use Rattle.coord_link.specs.LaneMachine.{refused_or}
use Rattle.coord_node.specs.Facade.{kind}
use Rattle.coord_world.specs.declared.verdicts.Verdict.{Verdict}
use Rattle.coord_world.specs.declared.verdicts.Verdict.TheVariants.{Fresh, Repeat}
use Rattle.coord_world.specs.protocol.Acceptance.{against_number}
use Rattle.coord_world.specs.Facade.{is_exhausted, is_unknown, judged, last_number, or_repeat, state}
use Rattle.coord_orders.specs.FoundCount.{CountIsFound, IsNoProbe, probe}

-- by its tests alone
by_tests : (v : Verdict) (exhausted unknown good : Bool) (last n : ℕ) → exhausted ≡ false → good ≡ false →
    refused_or v ((exhausted, Exhausted) ∷ against_number last n ++ ((unknown, UnknownNode) ∷ (not good, BadEpoch) ∷ []))
    ≡ Err (if n == last + 1 then (if unknown then UnknownNode else BadEpoch) else (if n == 0 then OutOfTurn else (if n == last then NumberReused else OutOfTurn)))
by_tests v exhausted unknown good last n e b = grind (arith, nat_tests, e, b)

-- no confirm of epoch 0 is good
not_good : (confirmed epoch : ℕ) → (nat_lt confirmed 0 && nat_le 0 epoch) ≡ false
not_good confirmed epoch = grind (arith, nat_tests)

no_repeat : (o : Option Session) (n u : ℕ) (v : Result Verdict Refusal) → IsNoProbe o → or_repeat o n (probe u) v ≡ v
no_repeat None n u v apart = refl
no_repeat (Some s) n u v apart =
    elim (same_command s.command (probe u)) as (λ b. same_command s.command (probe u) ≡ b → (if (s.number == n) && b then Ok (Repeat s.reply) else v) ≡ v) [
      | true ↦ λ yes. absurd (apart u (same_is s.command (probe u) yes))
      | false ↦ λ not. grind (arith, nat_tests)
    ] refl

pub count_is_found : CountIsFound
count_is_found w settled c n u takes apart =
    no_repeat (get w.sessions c) n u (judged w settled (Order c n (probe u))) apart
    ∙ by_tests (Fresh (kind (state w) (Order c n (probe u)))) (is_exhausted w) (is_unknown w u) (nat_lt (state w u).confirmed 0 && nat_le 0 (state w u).epoch) (last_number (get w.sessions c)) n takes (not_good (state w u).confirmed (state w u).epoch)
