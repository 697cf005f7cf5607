-- The names and numbers of the faults.
use Rattle.std.specs.Prelude.{ℕ, List, codes}
use Rattle.proxy_policy.specs.declared.fault.PolicyFault.{PolicyFault}
use Rattle.proxy_policy.specs.declared.fault.PolicyFault.TheVariants.{OutOfMemory, NotToml, BadKey, BadValue}

abbrev pub fault_number : PolicyFault → ℕ
fault_number OutOfMemory = 1
fault_number NotToml = 2
fault_number BadKey = 3
fault_number BadValue = 4

abbrev pub fault_name : PolicyFault → List ℕ
fault_name OutOfMemory = codes "OutOfMemory"
fault_name NotToml = codes "NotToml"
fault_name BadKey = codes "BadKey"
fault_name BadValue = codes "BadValue"
