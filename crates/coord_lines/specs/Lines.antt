-- The lines of a text.
use Rattle.std.specs.Prelude.{ℕ, ◌≤◌, IfSome, nat_le, ◌==◌, Bool, List, [], ◌∷◌, ◌++◌, length, map, Option, Some, None, option_map, if◌then◌else◌}
use Rattle.std.specs.List.{slice_split, position, before_first, after_first}
use Rattle.coord_types.specs.declared.limits.TheConstants.{MAX_LINE_BYTES}

abbrev pub is_line_feed : ℕ → Bool
is_line_feed byte = byte == 10

-- a line: its bytes without the line feed, or None if it is longer than the limit
abbrev pub Line : Type 0
Line = Option (List ℕ)

unfoldable pub line_of : List ℕ → Line
line_of bytes = if nat_le (length bytes) MAX_LINE_BYTES then Some bytes else None

-- the line is no longer than the limit; None, which stands for every longer line, counts as within the limit
abbrev pub IsWithin : Line → Type 0
IsWithin line = IfSome line (λ bytes. length bytes ≤ MAX_LINE_BYTES)

-- The parts of a text before, between and after its line feeds. There is one line more than there are line feeds: the
-- last line has no line feed, and may be empty.
abbrev pub lines_of : List ℕ → List Line
lines_of text = map line_of (slice_split is_line_feed text)

-- a partial line followed by more bytes
abbrev pub extended : Line → List ℕ → Line
extended None more = None
extended (Some line) more = line_of (line ++ more)

-- the lines of a text that begins by continuing a partial line
abbrev pub going_on : Line → List (List ℕ) → List Line
going_on line [] = line ∷ []
going_on line (part ∷ parts) = extended line part ∷ map line_of parts

abbrev pub lines_on : Line → List ℕ → List Line
lines_on line text = going_on line (slice_split is_line_feed text)

-- the part of a text before its first line feed, or the whole text
abbrev pub before_line_feed : List ℕ → List ℕ
before_line_feed text = before_first is_line_feed text

-- the part of a text after its first line feed, if there is one
abbrev pub after_line_feed : List ℕ → Option (List ℕ)
after_line_feed text = option_map (λ place. after_first is_line_feed text) (position is_line_feed text)
