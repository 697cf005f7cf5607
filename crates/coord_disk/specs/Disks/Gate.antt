-- A gate: each sync waits until another thread opens it.
use Rattle.std.specs.Prelude.{◌≡◌, Bool, true}
use Rattle.std.specs.declared.alloc.Global.{Global}
use Rattle.std.specs.declared.sync.Arc.{Arc}
use Rattle.std.specs.declared.sync.atomic.AtomicBool.{AtomicBool}
use Rattle.coord_disk.specs.declared.failing.Call.{Call}
use Rattle.coord_disk.specs.declared.failing.Call.TheVariants.{Sync}
use Rattle.coord_disk.specs.declared.gate.Gate.{Gate}

-- the gate with these two flags: a sync sets the first, and another thread sets the second to let the sync continue
abbrev pub gate_of : Arc AtomicBool Global → Arc AtomicBool Global → Gate
gate_of entered answered = record { entered = entered; answered = answered }

-- The gate fails only syncs, and only if it stays closed; its flags do not change.
abbrev pub GateSays : Gate → Call → Bool → Gate → Type 0
GateSays old call fails new = (fails ≡ true → call ≡ Sync) × (new ≡ old)
