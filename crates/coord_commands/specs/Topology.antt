-- The topology that the bytes of a file contain.
use Rattle.std.specs.Prelude.{ℕ, List, if◌then◌else◌, Result, Err}
use Rattle.std.specs.Str.{is_utf8}
use Rattle.coord_config.specs.Reading.{reading}
use Rattle.coord_config.specs.Topology.{Content}
use Rattle.coord_config.specs.declared.fault.ConfigFault.{ConfigFault}
use Rattle.coord_config.specs.declared.fault.ConfigFault.TheVariants.{NotToml}
use Rattle.coord_commands.specs.declared.fault.Fault.{Fault}
use Rattle.coord_commands.specs.declared.fault.Fault.TheVariants.{Read, OutOfMemory, Topology}

-- the topology in these bytes, or the fault that refuses them; bytes that are not UTF-8 are not
-- TOML
abbrev pub said_by : List ℕ → Result Content ConfigFault
said_by bytes = if is_utf8 bytes then reading bytes else Err NotToml

-- The fault may end the reading of a topology file: the file can't be read, memory runs out, or the
-- topology is refused.
abbrev pub IsOfText : Fault → Type 0
IsOfText Read = Unit {0}
IsOfText OutOfMemory = Unit {0}
IsOfText (Topology fault) = Unit {0}
IsOfText fault = ⊥
