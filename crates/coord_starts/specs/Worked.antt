-- A worked example: the life of a small store.
--
-- First start: order 1 of client 1 adds node 1, and is settled and collected; order 2 of the client, which adds
-- node 2, is accepted as step 2 and lost. Second start: the store is migrated. Third start: order 1 arrives
-- again and gets its old reply; order 2 now adds node 3, as step 2, and its commit is cut off, but the step is
-- kept. Last start: order 2 arrives again, and gets its reply.
use Rattle.std.specs.Prelude.{◌≡◌, List, [], ◌∷◌}
use Rattle.coord_types.specs.declared.steps.Command.TheVariants.{Add}
use Rattle.coord_types.specs.declared.steps.Kind.TheVariants.{Done}
use Rattle.coord_types.specs.declared.steps.Reply.{Reply}
use Rattle.coord_types.specs.declared.steps.Step.{Step}
use Rattle.coord_types.specs.declared.steps.Step.TheVariants.{Order}
use Rattle.coord_store.specs.declared.faults.CommitFault.TheVariants as fault
use Rattle.coord_world.specs.Facade.{no_world}
use Rattle.coord_ledger.specs.declared.events.Answer.TheVariants.{Accepted, Begun, Collected, Committed, Failed, Finished, Repeated}
use Rattle.coord_ledger.specs.declared.events.Event.TheVariants.{Begin, Collect, Commit, Finish, Submit}
use Rattle.coord_following.specs.Histories.{Takes, Raises as raising}
use Rattle.coord_starts.specs.Starts.{AreStarts, Raises, Serves, Start, replied_of, turns_of}

abbrev pub first_order : Step
first_order = Order 1 1 (Add 1 1)

abbrev pub lost_order : Step
lost_order = Order 1 2 (Add 2 1)

abbrev pub second_order : Step
second_order = Order 1 2 (Add 3 1)

abbrev pub done : Reply
done = record { step = 1; kind = Done }

abbrev pub done_next : Reply
done_next = record { step = 2; kind = Done }

abbrev pub life : List Start
life =
    Serves (Submit first_order ∷ Begin ∷ Commit ∷ Finish ∷ Collect 0 ∷ Submit lost_order ∷ []) (Accepted 1 ∷ Begun 1 ∷ Committed ∷ Finished 1 ∷ Collected done ∷ Accepted 2 ∷ []) 1
    ∷ Raises
    ∷ Serves (Submit first_order ∷ Collect 0 ∷ Submit second_order ∷ Begin ∷ Commit ∷ []) (Repeated 1 ∷ Collected done ∷ Accepted 2 ∷ Begun 1 ∷ Failed fault.Device ∷ []) 1
    ∷ Serves (Submit second_order ∷ Collect 0 ∷ []) (Repeated 2 ∷ Collected done_next ∷ []) 0
    ∷ []

pub record WorkedLife : Type 0 where
  pub starts : AreStarts (no_world 1) life
  pub turns : turns_of (no_world 1) life ≡ Takes first_order ∷ raising ∷ Takes second_order ∷ []
  pub replied : replied_of (no_world 1) life ≡ done ∷ done ∷ done_next ∷ []
