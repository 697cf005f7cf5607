-- The reasons why the store of a topology is not created.
use Rattle.std.specs.Prelude.{◌≡◌, ◌⊎◌, ℕ, List}
use Rattle.coord_store.specs.Halves.{HasHalves}
use Rattle.coord_store.specs.Recovered.{Recovered}
use Rattle.coord_store.specs.Refused.{IsCreateFault, RefusesCreate, failed_in}
use Rattle.coord_world.specs.protocol.NumberedWorld.{no_world}
use Rattle.coord_commands.specs.declared.fault.Fault.{Fault}
use Rattle.coord_commands.specs.declared.fault.Fault.TheVariants.{OutOfMemory, Store, Refused}

-- The fault may end the creation of a topology's store: no store was created, or one of its first orders was
-- refused.
abbrev pub IsOfCreation : Fault → Type 0
IsOfCreation OutOfMemory = Unit {0}
IsOfCreation (Store fault) = IsCreateFault fault
IsOfCreation (Refused refusal) = Unit {0}
IsOfCreation fault = ⊥

-- If this fault is a fault of the store, creating a store on a device with these bytes returns this fault.
abbrev pub RefusesCommitted : List ℕ → ℕ → Fault → Type 0
RefusesCommitted bytes half_size (Store fault) = RefusesCreate bytes half_size fault
RefusesCommitted bytes half_size fault = Unit {0}

-- A disk that was not empty is unchanged. An empty disk now has a store without any step, with halves of
-- this size.
abbrev pub LeavesNoStep : ℕ → List ℕ → List ℕ → Type 0
LeavesNoStep half_size before after = (after ≡ before) ⊎ (Recovered after (no_world 2) × HasHalves half_size after)

-- the number of device failures that this fault of a creation implies
abbrev pub failures_at : Fault → ℕ
failures_at (Store fault) = failed_in fault
failures_at fault = 0
