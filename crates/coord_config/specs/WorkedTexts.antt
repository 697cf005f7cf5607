-- Worked examples: texts with their results.
use Rattle.std.specs.Prelude.{◌≡◌, ℕ, [], ◌∷◌, codes, Ok, Err}
use Rattle.coord_config.specs.declared.fault.ConfigFault.TheVariants.{NotToml, BadKey, BadValue}
use Rattle.coord_config.specs.declared.topology.NodeEntry.{NodeEntry}
use Rattle.coord_config.specs.declared.topology.LinkEntry.{LinkEntry}
use Rattle.coord_config.specs.Reading.{reading}

abbrev node : ℕ → ℕ → NodeEntry
node id group = record { id = id; group = group }

abbrev link : ℕ → ℕ → LinkEntry
link a b = record { a = a; b = b }

-- valid files are read as the topologies that they describe
pub record GoodTexts : Type 0 where
  pub blank : reading [] ≡ Ok (record { half = 65536; nodes = []; links = [] })
  pub linked :
      reading (codes "half = 32768\n[[node]]\nid = 1\ngroup = 2\n[[node]]\nid = 2\ngroup = 2\n[[link]]\na = 2\nb = 1\n")
      ≡ Ok (record { half = 32768; nodes = node 1 2 ∷ node 2 2 ∷ []; links = link 2 1 ∷ [] })
  pub repeated : reading (codes "node = [{id = 64, group = 16}, {id = 64, group = 16}]") ≡ Ok (record { half = 65536; nodes = node 64 16 ∷ node 64 16 ∷ []; links = [] })

-- files with an unknown, a missing or an extra key are refused as BadKey
pub record WrongKeys : Type 0 where
  pub unknown : reading (codes "halves = 1") ≡ Err BadKey
  pub missing : reading (codes "half = 1\n[[node]]\nid = 1\n") ≡ Err BadKey
  pub extra : reading (codes "[[link]]\na = 1\nb = 2\nc = 3\n") ≡ Err BadKey

-- files with a value of a wrong type or out of range are refused as BadValue
pub record WrongValues : Type 0 where
  pub small_half : reading (codes "half = 32767") ≡ Err BadValue
  pub large_half : reading (codes "half = 16777217") ≡ Err BadValue
  pub negative_half : reading (codes "half = -1") ≡ Err BadValue
  pub text_half : reading (codes "half = \"x\"") ≡ Err BadValue
  pub node_table : reading (codes "[node]\nid = 1") ≡ Err BadValue
  pub number_node : reading (codes "node = [1]") ≡ Err BadValue
  pub node_0 : reading (codes "[[node]]\nid = 0\ngroup = 1\n") ≡ Err BadValue
  pub node_65 : reading (codes "[[node]]\nid = 65\ngroup = 1\n") ≡ Err BadValue
  pub group_17 : reading (codes "[[node]]\nid = 1\ngroup = 17\n") ≡ Err BadValue

-- texts that are not TOML are refused as NotToml
pub record WrongTexts : Type 0 where
  pub open_header : reading (codes "[[node]") ≡ Err NotToml
  pub repeated_key : reading (codes "half = 32768\nhalf = 32768\n") ≡ Err NotToml
  pub past_an_i64 : reading (codes "half = 9223372036854775808") ≡ Err NotToml
