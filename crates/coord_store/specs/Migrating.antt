-- The result of a migration, and the reasons why a migration is refused.
use Rattle.std.specs.Prelude.{◌≡◌, ℕ, ◌==◌, ◌<◌, false, Result, Ok, Err, if◌then◌else◌}
use Rattle.coord_types.specs.declared.messages.Mode.TheVariants.{Ready}
use Rattle.coord_world.specs.laws.Raised.{raised}
use Rattle.coord_world.specs.laws.Waves.{AllReady}
use Rattle.coord_world.specs.Facade.{World, is_ready, state}
use Rattle.coord_store.specs.Refused.{failed_in}
use Rattle.coord_store.specs.declared.faults.StoreFault.{StoreFault}
use Rattle.coord_store.specs.declared.faults.StoreFault.TheVariants.{OutOfMemory, Device, NotQuiet, Stopped}

-- this world, raised to version 2 if its version is 1
abbrev pub risen : World → World
risen w = if w.version == 1 then raised w else w

-- node u is in a reset, and every node with a lower number is Ready
pub record IsFirstBusy (w : World) (u : ℕ) : Type 0 where
  pub busy : is_ready (state w u).mode ≡ false
  pub least : (v : ℕ) → v < u → (state w v).mode ≡ Ready

-- the world has version 1, and every node in it is Ready
pub record IsQuiet (w : World) : Type 0 where
  pub first : w.version ≡ 1
  pub ready : AllReady w

-- The reasons why a store with this world is not migrated to version 2. `OutOfMemory` and `Device` are
-- possible only if the world is quiet.
abbrev pub RefusesMigration : World → StoreFault → Type 0
RefusesMigration w OutOfMemory = IsQuiet w
RefusesMigration w Device = IsQuiet w
RefusesMigration w (NotQuiet u) = (w.version ≡ 1) × IsFirstBusy w u
RefusesMigration w Stopped = Unit {0}
RefusesMigration w fault = ⊥

-- the number of device failures in a migration with this result
abbrev pub failures_in : {T : Type 0} → Result T StoreFault → ℕ
failures_in (Ok value) = 0
failures_in (Err fault) = failed_in fault
