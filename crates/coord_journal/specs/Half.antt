-- The numbers of the two halves of a device.
use Rattle.std.specs.Prelude.{ℕ}
use Rattle.coord_journal.specs.declared.half.Half.{Half}
use Rattle.coord_journal.specs.declared.half.Half.TheVariants.{First, Second}

abbrev pub half_number : Half → ℕ
half_number First = 0
half_number Second = 1
