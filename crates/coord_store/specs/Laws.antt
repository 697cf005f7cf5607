-- Laws of the world that bytes give.
use Rattle.std.specs.Prelude.{◌≡◌, ℕ, List}
use Rattle.coord_world.specs.protocol.NumberedWorld.{World}
use Rattle.coord_store.specs.Recovered.{Recovered}
use Rattle.coord_store.specs.Refused.{RefusesOpen, IsPassing}
use Rattle.coord_store.specs.declared.faults.StoreFault.{StoreFault}

-- bytes give at most one world
abbrev pub RecoveredIsOne : Type 0
RecoveredIsOne = (bytes : List ℕ) (v w : World) → Recovered bytes v → Recovered bytes w → v ≡ w

-- bytes that give a world are refused only if memory runs out or the device fails
abbrev pub RecoveredIsOpened : Type 0
RecoveredIsOpened = (bytes : List ℕ) (w : World) (fault : StoreFault) → Recovered bytes w → RefusesOpen bytes fault → IsPassing fault
