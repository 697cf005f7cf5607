-- The contents of named disks and texts.
use Rattle.std.specs.Prelude.{ℕ, List, [], ◌∷◌, bytes_eq, string_bytes, Option, Some, None, option_map, if◌then◌else◌}
use Rattle.coord_disk.specs.Model.DiskModel.{DiskModel}
use Rattle.coord_disk.specs.Model.Present.{Present}
use Rattle.coord_commands.specs.declared.memory.Named.{Named}

-- the content of a disk, known only if the disk keeps the model
abbrev pub known_of : {D : Type 0} → DiskModel D → D → Option Present
known_of model disk = if model.keeps_model disk then Some (model.present disk) else None

-- the bytes that a read returns, if they are known
abbrev pub reads : Option Present → Option (List ℕ)
reads = option_map (λ known. known.read)

-- the bytes of a disk, known only if the disk keeps the model
abbrev pub bytes_of : {D : Type 0} → DiskModel D → D → Option (List ℕ)
bytes_of model disk = reads (known_of model disk)

-- the bytes of the first text with this name
abbrev pub text_under : List Named → List ℕ → Option (List ℕ)
text_under [] name = None
text_under (text ∷ rest) name = if bytes_eq (string_bytes text.name) name then Some text.bytes.items else text_under rest name
