-- The topology that a TOML text describes.
use Rattle.std.specs.Prelude.{ℕ, nat_le, if◌then◌else◌, List, length, Option, Some, None, Result, Err}
use Rattle.toml.specs.Data.{Members}
use Rattle.toml.specs.Parse.{parse_document}
use Rattle.coord_config.specs.declared.reading.TheConstants.{MAX_TEXT_BYTES}
use Rattle.coord_config.specs.declared.fault.ConfigFault.{ConfigFault}
use Rattle.coord_config.specs.declared.fault.ConfigFault.TheVariants.{NotToml}
use Rattle.coord_config.specs.Topology.{Content, topology_of}

abbrev pub topology_if : Option Members → Result Content ConfigFault
topology_if None = Err NotToml
topology_if (Some ms) = topology_of ms

-- the topology that a text describes, or the fault; a text that is too long is refused as NotToml
abbrev pub reading : List ℕ → Result Content ConfigFault
reading text = if nat_le (length text) MAX_TEXT_BYTES then topology_if (parse_document text) else Err NotToml
