-- The names and numbers of faults.
use Rattle.std.specs.Prelude.{ℕ, List, codes, ◌++◌}
use Rattle.std.specs.Fmt.{decimal}
use Rattle.coord_batch.specs.declared.fault.CodecFault.{CodecFault}
use Rattle.coord_batch.specs.declared.fault.FaultKind.{FaultKind}
use Rattle.coord_batch.specs.declared.fault.FaultKind.TheVariants.{OutOfMemory, Short, BadByte, Extra, BadVersion}

abbrev pub fault_number : FaultKind → ℕ
fault_number OutOfMemory = 1
fault_number Short = 2
fault_number BadByte = 3
fault_number Extra = 4
fault_number BadVersion = 5

abbrev pub fault_name : FaultKind → List ℕ
fault_name OutOfMemory = codes "OutOfMemory"
fault_name Short = codes "Short"
fault_name BadByte = codes "BadByte"
fault_name Extra = codes "Extra"
fault_name BadVersion = codes "BadVersion"

-- the fault's name and place, for example "BadByte at 66"
abbrev pub fault_text : CodecFault → List ℕ
fault_text fault = fault_name fault.kind ++ codes " at " ++ decimal fault.at
