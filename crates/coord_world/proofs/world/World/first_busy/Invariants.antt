-- The nodes that were passed are Ready.
use Rattle.std.proofs.Common.{◌≡◌, ℕ, ◌<◌}
use Rattle.coord_types.specs.declared.messages.Mode.TheVariants.{Ready}
use Rattle.coord_world.specs.protocol.NumberedWorld.{state}
use Rattle.coord_world.proofs.world.World.first_busy.Given as goal

abbrev pub invariant-loop-number : goal.invariant-loop-number
invariant-loop-number l = (v : ℕ) → v < l.number → (state l.self v).mode ≡ Ready
