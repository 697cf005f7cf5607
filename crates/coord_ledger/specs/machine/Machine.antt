-- The state of the event machine.
use Rattle.std.specs.Prelude.{ℕ, List, [], Option, None}
use Rattle.coord_types.specs.declared.steps.Reply.{Reply}
use Rattle.coord_world.specs.protocol.NumberedWorld.{World}
use Rattle.coord_ledger.specs.declared.mark.Mark.{Mark}
use Rattle.coord_ledger.specs.declared.release.Release.{Release}
use Rattle.coord_ledger.specs.machine.Log.{Log, log_over}

-- the next `size` pending steps are in flight, with this mark
pub record FlightOut : Type 0 where
  pub size : ℕ
  pub mark : Mark

pub record Machine : Type 0 where
  pub log : Log
  pub flight : Option FlightOut
  pub tickets : List (Option Reply)  -- the tickets in the order in which they were issued; None for a collected ticket
  pub seen : ℕ  -- the settled count of the last view that was shown
  pub released : List Release  -- all releases ever, in order
  pub replied : List Reply  -- all replies ever collected, in order

-- the machine with this log, without a flight, tickets or releases
abbrev pub machine_over : Log → Machine
machine_over log = record { log = log; flight = None; tickets = []; seen = 0; released = []; replied = [] }

-- the machine of a ledger that was just created over a store with this world
abbrev pub adopted : World → Machine
adopted w = machine_over (log_over w)
