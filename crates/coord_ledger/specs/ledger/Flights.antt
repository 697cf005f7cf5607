-- The flight of a ledger, and the worlds that the images of a disk give.
use Rattle.std.specs.Prelude.{◌≡◌, ℕ, ◌+◌, Bool, true, List, length, take, Option, Some, None}
use Rattle.coord_disk.specs.Model.Present.{Present, IsImage}
use Rattle.coord_store.specs.Recovered.{Recovered}
use Rattle.coord_ledger.specs.ledger.State.{FlightState, LedgerState}
use Rattle.coord_ledger.specs.machine.Answers.{IsOneOf}
use Rattle.coord_ledger.specs.machine.Log.{Log, pending, settled_count, settled_world, world_after}
use Rattle.coord_ledger.specs.machine.Machine.{FlightOut}

-- These bytes give the log's world after one of these numbers of steps.
pub record GivesOneOf (log : Log) (counts bytes : List ℕ) : Type 0 where
  pub steps : ℕ
  pub allowed : IsOneOf steps counts
  pub recovered : Recovered bytes (world_after log steps)

-- Each image of a disk gives the log's world after one of these numbers of steps.
abbrev pub ImagesGiveOneOf : Bool → Present → Log → List ℕ → Type 0
ImagesGiveOneOf keeps_model present log counts = keeps_model ≡ true → (image : List ℕ) → IsImage present image → GivesOneOf log counts image

-- The flight left this ledger and is still out. It begins with the ledger's first unsettled step, has the
-- ledger's next steps, and has the settled world.
pub record IsOut {D : Type 0} (l : LedgerState D) (f : FlightState D) : Type 0 where
  pub size : l.out ≡ Some (length f.steps)
  pub first : f.first ≡ settled_count l.log + 1
  pub steps : f.steps ≡ take (length f.steps) (pending l.log)
  pub world : f.world ≡ settled_world l.log

abbrev pub flight_out : {D : Type 0} → FlightState D → FlightOut
flight_out f = record { size = length f.steps; mark = f.mark }

-- The flight that the driver holds is its ledger's flight. If the driver holds no flight, none is out.
abbrev pub HoldsFlight : {D : Type 0} → LedgerState D → Option (FlightState D) → Type 0
HoldsFlight l None = l.out ≡ None
HoldsFlight l (Some f) = IsOut l f
