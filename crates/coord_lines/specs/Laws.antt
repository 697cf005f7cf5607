-- The law of a text that arrives in pieces.
use Rattle.std.specs.Prelude.{◌≡◌, ℕ, List, [], ◌∷◌, ◌++◌, Some}
use Rattle.std.specs.List.{concat}
use Rattle.coord_lines.specs.Lines.{Line, lines_of, lines_on}

-- all lines but the last line, which may still continue
abbrev pub ended : List Line → List Line
ended [] = []
ended (line ∷ []) = []
ended (line ∷ next ∷ lines) = line ∷ ended (next ∷ lines)

abbrev pub last_of : List Line → Line
last_of [] = Some []
last_of (line ∷ []) = line
last_of (line ∷ next ∷ lines) = last_of (next ∷ lines)

-- The lines of a text that arrives in pieces. Each piece continues the line at which the previous piece ended; the line
-- at which the last piece ends is the last line.
abbrev pub lines_in_pieces : Line → List (List ℕ) → List Line
lines_in_pieces line [] = lines_on line []
lines_in_pieces line (piece ∷ pieces) = let lines = lines_on line piece in ended lines ++ lines_in_pieces (last_of lines) pieces

-- a text that arrives in pieces has the lines of the whole text, whatever the pieces are
abbrev pub PiecesHaveTheLinesOfTheWhole : Type 0
PiecesHaveTheLinesOfTheWhole = (pieces : List (List ℕ)) → lines_in_pieces (Some []) pieces ≡ lines_of (concat pieces)
