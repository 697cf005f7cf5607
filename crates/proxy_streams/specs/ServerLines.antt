-- The lines that the server sends.
use Rattle.std.specs.Prelude.{ℕ, List, Option, option_map, take}
use Rattle.std.specs.List.{position}
use Rattle.coord_lines.specs.Lines.{is_line_feed}

-- the first line, if its line feed has arrived
abbrev pub first_line : List ℕ → Option (List ℕ)
first_line text = option_map (λ place. take place text) (position is_line_feed text)
