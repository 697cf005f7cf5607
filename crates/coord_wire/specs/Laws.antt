-- The law of names: each name that the server prints is read as the value for which it was printed.
use Rattle.std.specs.Prelude.{◌≡◌, Some}
use Rattle.std.specs.List.{AllByRecursion}
use Rattle.coord_types.specs.Names.{kind_name, refusal_name}
use Rattle.coord_wire.specs.AnswerLine.{kind_named, kinds, refusal_named, refusals}

pub record NamesAreRead : Type 0 where
  pub kinds : AllByRecursion (λ row. (row.0 ≡ kind_name row.1) × (kind_named row.0 ≡ Some row.1)) kinds
  pub refusals : AllByRecursion (λ row. (row.0 ≡ refusal_name row.1) × (refusal_named row.0 ≡ Some row.1)) refusals
