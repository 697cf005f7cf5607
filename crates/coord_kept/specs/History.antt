-- The file of a history: one digest on each line. A last line without a line feed was torn, and is ignored.
use Rattle.std.specs.Prelude.{ℕ, zero, suc, ◌*◌, ◌/◌, ◌%◌, ◌==◌, ◌&&◌, ◌||◌, nat_le, Bool, true, false, List, codes, length, slice_index, take, drop, if◌then◌else◌, Option, Some, None}
use Rattle.std.specs.List.{list_all}
use Rattle.std.specs.Str.{bytes_eq}
use Rattle.coord_kept.specs.declared.history.Found.{Found}

abbrev pub line_feed : ℕ
line_feed = 10

-- the number of bytes of the whole lines among the first n bytes
abbrev pub size_in : List ℕ → ℕ → ℕ
size_in h zero = 0
size_in h (suc n) = if slice_index h n == line_feed then suc n else size_in h n

abbrev pub size_of : List ℕ → ℕ
size_of h = size_in h (length h)

abbrev pub is_digit : ℕ → Bool
is_digit c = (nat_le 48 c && nat_le c 57) || (nat_le 97 c && nat_le c 102)

-- whether this is a line of a history: 64 hexadecimal digits and a line feed
unfoldable pub is_line : List ℕ → Bool
is_line line = list_all is_digit (take 64 line) && bytes_eq (drop 64 line) (codes "\n")

abbrev pub line_at : List ℕ → ℕ → List ℕ
line_at h k = take 65 (drop (65 * k) h)

abbrev pub are_lines : List ℕ → ℕ → Bool
are_lines h zero = true
are_lines h (suc k) = is_line (line_at h k) && are_lines h k

-- whether one of the first k lines is this line
abbrev pub is_among : List ℕ → List ℕ → ℕ → Bool
is_among h line zero = false
is_among h line (suc k) = is_among h line k || bytes_eq (line_at h k) line

abbrev pub is_history : List ℕ → Bool
is_history h = (size_of h % 65 == 0) && are_lines h (size_of h / 65)

-- whether a history has this line, and the size of its whole lines; None if the bytes are not a history
abbrev pub looked_up : List ℕ → List ℕ → Option Found
looked_up h line = if is_history h then Some (record { size = size_of h; has = is_among h line (size_of h / 65) }) else None
