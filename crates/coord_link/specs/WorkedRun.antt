-- A worked run: the lane from the initiator of a reset to its only neighbour, with packets that arrive twice or too
-- early.
use Rattle.std.specs.Prelude.{◌≡◌, List, [], ◌∷◌, Ok, Err}
use Rattle.coord_types.specs.declared.messages.Msg.TheVariants.{Abort, Ready}
use Rattle.coord_types.specs.declared.refusals.Refusal.TheVariants.{Old, Early, Differs}
use Rattle.coord_link.specs.LaneMachine.{new_lane}
use Rattle.coord_link.specs.Moves.{Move, Send, Take, Clear, run, taken_by, answers}

-- the moves of this run; the link was made by step 3
abbrev pub reset_moves : List Move
reset_moves =
    Take 1 (Abort 0) ∷ Send (Abort 0) ∷ Take 1 Ready ∷ Clear 1 ∷ Take 1 (Abort 0) ∷ Take 1 (Abort 0) ∷ Take 2 Ready ∷ Send Ready
    ∷ Take 2 Ready ∷ Clear 2 ∷ Clear 1 ∷ Clear 1 ∷ Take 3 Ready ∷ Take 2 Ready ∷ []

pub record ResetLane : Type 0 where
  pub answered :
      answers (new_lane 3) reset_moves ≡
      Err Early ∷ Ok tt ∷ Err Differs ∷ Err Early ∷ Ok tt ∷ Err Old ∷ Err Early ∷ Ok tt
      ∷ Err Early ∷ Err Early ∷ Ok tt ∷ Err Old ∷ Err Early ∷ Ok tt ∷ []
  pub taken : taken_by (new_lane 3) reset_moves ≡ Abort 0 ∷ Ready ∷ []
  pub left : run (new_lane 3) reset_moves ≡ record { inc = 3; base = 1; got = 2; queue = Ready ∷ [] }
