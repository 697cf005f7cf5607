-- The names and numbers of the faults.
use Rattle.std.specs.Prelude.{ℕ, List, codes}
use Rattle.coord_admin.specs.declared.fault.LineFault.{LineFault}
use Rattle.coord_admin.specs.declared.fault.LineFault.TheVariants as line
use Rattle.coord_admin.specs.declared.fault.ServeFault.{ServeFault}
use Rattle.coord_admin.specs.declared.fault.ServeFault.TheVariants as serve

abbrev pub line_fault_name : LineFault → List ℕ
line_fault_name line.Unfinished = codes "Unfinished"
line_fault_name line.TooLong = codes "TooLong"
line_fault_name line.BadText = codes "BadText"
line_fault_name line.BadJson = codes "BadJson"
line_fault_name line.BadRequest = codes "BadRequest"
line_fault_name line.UnknownOp = codes "UnknownOp"
line_fault_name line.OutOfMemory = codes "OutOfMemory"

abbrev pub fault_number : ServeFault → ℕ
fault_number serve.OutOfMemory = 1
fault_number serve.Read = 2
fault_number serve.Write = 3
fault_number serve.Turns = 4

abbrev pub fault_name : ServeFault → List ℕ
fault_name serve.OutOfMemory = codes "OutOfMemory"
fault_name serve.Read = codes "Read"
fault_name serve.Write = codes "Write"
fault_name serve.Turns = codes "Turns"
