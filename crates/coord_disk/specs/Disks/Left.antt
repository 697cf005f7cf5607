-- The bytes after a crash.
use Rattle.std.specs.Prelude.{◌≡◌, ℕ, List}
use Rattle.coord_disk.specs.Disks.Filled.{IsFilled}
use Rattle.coord_disk.specs.Model.Present.{Present}
use Rattle.coord_disk.specs.declared.choice.Choice.{Choice}
use Rattle.coord_disk.specs.declared.choice.Choice.TheVariants.{Lost, Kept, Filled}

-- a crash with this choice leaves the bytes `image`
abbrev pub IsLeft : Choice → Present → List ℕ → Type 0
IsLeft Lost disk image = image ≡ disk.synced
IsLeft Kept disk image = image ≡ disk.read
IsLeft (Filled filler) disk image = IsFilled disk filler.items image
