-- The printed forms of letters and violations.
use Rattle.std.specs.Prelude.{ℕ, List, ◌++◌, codes, decimal}
use Rattle.coord_check.specs.declared.violation.Letter.{Letter}
use Rattle.coord_check.specs.declared.violation.Letter.TheVariants as letter
use Rattle.coord_check.specs.declared.violation.Violation.{Violation}

abbrev pub letter_name : Letter → List ℕ
letter_name letter.N = codes "N"
letter_name letter.A = codes "A"
letter_name letter.B = codes "B"
letter_name letter.C = codes "C"
letter_name letter.D = codes "D"
letter_name letter.E = codes "E"
letter_name letter.F = codes "F"
letter_name letter.G = codes "G"
letter_name letter.H = codes "H"

-- the two nodes, and the letter of the predicate that fails
abbrev pub violation_text : Violation → List ℕ
violation_text v = decimal v.a ++ (codes " " ++ (decimal v.b ++ (codes " " ++ letter_name v.letter)))
