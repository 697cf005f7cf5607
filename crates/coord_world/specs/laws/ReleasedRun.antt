-- The reset of the stored run: when each of its packets is released.
use Rattle.std.specs.Prelude.{◌≡◌, ℕ, List, [], ◌∷◌, map, Result, Ok, Err, take as first}
use Rattle.coord_types.specs.declared.messages.Msg.TheVariants as msg
use Rattle.coord_types.specs.declared.outputs.Output.TheVariants.{Signalled}
use Rattle.coord_types.specs.declared.refusals.Refusal.{Refusal}
use Rattle.coord_types.specs.declared.refusals.Refusal.TheVariants.{NotReleased}
use Rattle.coord_types.specs.declared.steps.Kind.TheVariants.{Cleared, Taken}
use Rattle.coord_types.specs.declared.steps.Step.{Step}
use Rattle.coord_world.specs.declared.verdicts.Verdict.{Verdict}
use Rattle.coord_world.specs.declared.verdicts.Verdict.TheVariants.{Fresh}
use Rattle.coord_world.specs.protocol.Acceptance.{accepts}
use Rattle.coord_world.specs.protocol.Next.{fold}
use Rattle.coord_world.specs.protocol.NumberedWorld.{World, no_world}
use Rattle.coord_world.specs.protocol.Outputs.{again}
use Rattle.coord_world.specs.laws.Release.{outputs_of}
use Rattle.coord_world.specs.laws.WorkedSteps.{clear, data_out, one_reset, receipt_out, take, two_linked}
use Rattle.coord_world.specs.laws.Trails.{IsTrail}

-- the world of two linked nodes in which the reset begins
abbrev pub linked : World
linked = fold (no_world 1) two_linked

-- the world after the first n steps of the reset
abbrev pub after : ℕ → World
after n = fold linked (first n one_reset)

-- the verdicts on a step that arrives after n steps, one verdict for each of these numbers of settled steps
abbrev pub answers : ℕ → Step → List ℕ → List (Result Verdict Refusal)
answers n s settled = map (λ d. accepts (after n) (after d) s) settled

abbrev pub not_yet : Result Verdict Refusal
not_yet = Err NotReleased

pub record ReleasedRun : Type 0 where
  pub trail : IsTrail linked one_reset
  -- each packet is refused until the step that sends it is settled
  pub abort : answers 1 (take 1 2 3 1 (msg.Abort 0)) (0 ∷ 1 ∷ []) ≡ not_yet ∷ Ok (Fresh Taken) ∷ []
  pub ack : answers 2 (take 2 1 3 1 msg.Ack) (0 ∷ 1 ∷ 2 ∷ []) ≡ not_yet ∷ not_yet ∷ Ok (Fresh Taken) ∷ []
  pub receipt : answers 3 (clear 1 2 3 1) (0 ∷ 1 ∷ 2 ∷ 3 ∷ []) ≡ not_yet ∷ not_yet ∷ Ok (Fresh Cleared) ∷ Ok (Fresh Cleared) ∷ []
  pub ready : answers 4 (take 1 2 3 2 msg.Ready) (0 ∷ 1 ∷ 2 ∷ 3 ∷ 4 ∷ []) ≡ not_yet ∷ not_yet ∷ not_yet ∷ not_yet ∷ Ok (Fresh Taken) ∷ []
  -- the outputs of the steps, in order
  pub given : outputs_of linked one_reset
      ≡ data_out 1 2 3 1 (msg.Abort 0) ∷ receipt_out 1 2 3 1 ∷ data_out 2 1 3 1 msg.Ack ∷ receipt_out 2 1 3 1 ∷ Signalled 1 1 ∷ data_out 1 2 3 2 msg.Ready ∷ receipt_out 1 2 3 2 ∷ Signalled 2 1 ∷ []
  -- the resend list after each step
  pub resent : map (λ d. again (after d)) (0 ∷ 1 ∷ 2 ∷ 3 ∷ 4 ∷ 5 ∷ [])
      ≡ [] ∷ (data_out 1 2 3 1 (msg.Abort 0) ∷ [])
      ∷ (data_out 1 2 3 1 (msg.Abort 0) ∷ receipt_out 1 2 3 1 ∷ data_out 2 1 3 1 msg.Ack ∷ [])
      ∷ (data_out 1 2 3 1 (msg.Abort 0) ∷ receipt_out 1 2 3 1 ∷ data_out 2 1 3 1 msg.Ack ∷ receipt_out 2 1 3 1 ∷ [])
      ∷ (data_out 1 2 3 2 msg.Ready ∷ data_out 2 1 3 1 msg.Ack ∷ receipt_out 2 1 3 1 ∷ [])
      ∷ (data_out 1 2 3 2 msg.Ready ∷ receipt_out 1 2 3 2 ∷ data_out 2 1 3 1 msg.Ack ∷ receipt_out 2 1 3 1 ∷ []) ∷ []
