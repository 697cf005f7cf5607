-- The lines of a text that continues a line so far, after a piece of it.
use Rattle.std.proofs.Common.{◌≡◌, ◌+◌, length-drop, ℕ, ◌<◌, ◌≤◌, Bool, true, false, cond, leb, ltb, List, [], ◌∷◌, ◌++◌, length, get_or, option_map, Option, Some, None, refl, sym, ap, ◌∙◌, append_assoc, append-nil, arith, map, length-append}
use Rattle.std.specs.List.{All, slice_split, onto_first, position, position_or_len, after_first}
use Rattle.std.proofs.lemmas.Bool.Decides.{nat_tests}
use Rattle.std.proofs.lemmas.Grind.{common_steps}
use Rattle.std.proofs.lemmas.List.Elements.{All-head, All-tail}
use Rattle.std.proofs.lemmas.List.Splits.{slice_split_at, length-slice_split}
use Rattle.std.proofs.lemmas.List.Sums.{split_at_first, fails_before_first, passes_at_first}
use Rattle.coord_types.specs.declared.limits.TheConstants.{MAX_LINE_BYTES}
use Rattle.coord_lines.specs.Lines.{Line, IsWithin, is_line_feed, line_of, lines_of, extended, going_on, lines_on, before_line_feed, after_line_feed}

-- ---- a line in two steps

-- a line that is over the limit stays so
long_stays : (line a b : List ℕ) (t u : Bool) → (t ≡ leb (length line) MAX_LINE_BYTES) → (u ≡ leb (length (line ++ b)) MAX_LINE_BYTES) → extended (cond t (Some line) None) b ≡ cond u (Some (line ++ b)) None
unfolding line_of
long_stays line a b true u e f = ap (λ v. cond v (Some (line ++ b)) None) (sym f)
long_stays line a b false true e f = absurd (grind (arith, nat_tests, length-append line b))
long_stays line a b false false e f = refl

line_of-extended : (line more : List ℕ) → extended (line_of line) more ≡ line_of (line ++ more)
unfolding line_of
line_of-extended line more = long_stays line [] more _ _ refl refl

pub extended-extended : (line : Line) (a b : List ℕ) → extended (extended line a) b ≡ extended line (a ++ b)
extended-extended None a b = refl
extended-extended (Some line) a b = line_of-extended (line ++ a) b ∙ ap line_of (append_assoc line a b)

pub extended-nothing : (line : Line) → IsWithin line → extended line [] ≡ line
unfolding line_of
extended-nothing None within = refl
extended-nothing (Some line) within = grind (arith, nat_tests, append-nil line)

-- ---- a text that goes on a line

going_on_first : (parts : List (List ℕ)) → 0 < length parts → going_on (Some []) parts ≡ map line_of parts
going_on_first [] h = absurd (omega arith)
going_on_first (part ∷ parts) h = refl

-- a text on an empty line has its own lines
pub lines_on-empty : (text : List ℕ) → lines_on (Some []) text ≡ lines_of text
lines_on-empty text = going_on_first (slice_split is_line_feed text) (omega (arith, length-slice_split is_line_feed text))

-- a line feed ends the line
pub lines_on-feed : (line : Line) (before following : List ℕ) (byte : ℕ) → All (λ b. is_line_feed b ≡ false) before → is_line_feed byte ≡ true → lines_on line (before ++ byte ∷ following) ≡ extended line before ∷ lines_on (Some []) following
lines_on-feed line before following byte none feed = ap (going_on line) (slice_split_at is_line_feed before byte following none feed) ∙ ap (λ ls. extended line before ∷ ls) (sym (lines_on-empty following))

going_on-onto_first : (line : Line) (byte : ℕ) (parts : List (List ℕ)) → 0 < length parts → going_on line (onto_first byte parts) ≡ going_on (extended line (byte ∷ [])) parts
going_on-onto_first line byte [] h = absurd (omega arith)
going_on-onto_first line byte (part ∷ parts) h = ap (λ l. l ∷ map line_of parts) (sym (extended-extended line (byte ∷ []) part))

-- any other byte goes on the line
pub lines_on-byte : (line : Line) (byte : ℕ) (text : List ℕ) → is_line_feed byte ≡ false → lines_on line (byte ∷ text) ≡ lines_on (extended line (byte ∷ [])) text
lines_on-byte line byte text other = grind (arith, going_on-onto_first, length-slice_split)

nothing_more : (line : Line) (parts : List (List ℕ)) → 0 < length parts → going_on line parts ≡ going_on (extended line []) parts
nothing_more line [] h = absurd (omega arith)
nothing_more line (part ∷ parts) h = ap (λ l. l ∷ map line_of parts) (sym (extended-extended line [] part))

-- bytes with no line feed go on the line
pub lines_on-bytes : (line : Line) (bytes text : List ℕ) → All (λ b. is_line_feed b ≡ false) bytes → lines_on line (bytes ++ text) ≡ lines_on (extended line bytes) text
lines_on-bytes line [] text none = nothing_more line (slice_split is_line_feed text) (omega (arith, length-slice_split is_line_feed text))
lines_on-bytes line (byte ∷ bytes) text none =
    lines_on-byte line byte (bytes ++ text) (All-head (λ b. is_line_feed b ≡ false) byte bytes none)
    ∙ lines_on-bytes (extended line (byte ∷ [])) bytes text (All-tail (λ b. is_line_feed b ≡ false) byte bytes none)
    ∙ ap (λ l. lines_on l text) (extended-extended line (byte ∷ []) bytes)

-- ---- a piece of the text, up to its first line feed

place_found : (text : List ℕ) (t : Bool) (place : ℕ) → ltb (position_or_len is_line_feed text) (length text) ≡ t → cond t (Some (position_or_len is_line_feed text)) None ≡ Some place → (position_or_len is_line_feed text ≡ place) × (place < length text)
place_found text true place e f = let same : position_or_len is_line_feed text ≡ place = cc in (same, grind (arith, nat_tests))
place_found text false place e f = absurd cc

pub at_line_feed : (text : List ℕ) (place : ℕ) → position is_line_feed text ≡ Some place → (position_or_len is_line_feed text ≡ place) × (place < length text)
at_line_feed text place e = place_found text _ place refl e

no_place : (text : List ℕ) (t : Bool) → ltb (position_or_len is_line_feed text) (length text) ≡ t → cond t (Some (position_or_len is_line_feed text)) None ≡ None → length text ≤ position_or_len is_line_feed text
no_place text true e f = absurd cc
no_place text false e f = grind (arith, nat_tests)

pub without_line_feed : (text : List ℕ) → position is_line_feed text ≡ None → length text ≤ position_or_len is_line_feed text
without_line_feed text e = no_place text _ refl e

pub before_all : (text : List ℕ) → length text ≤ position_or_len is_line_feed text → before_line_feed text ≡ text
before_all text h = grind (arith, common_steps)

before_first_none : (text : List ℕ) → All (λ b. is_line_feed b ≡ false) (before_line_feed text)
before_first_none text k d below = let fails = fails_before_first is_line_feed text k d (grind (arith, common_steps)) in grind (arith, common_steps)

found : (text following : List ℕ) (place : Option ℕ) → position is_line_feed text ≡ place → option_map (λ _. after_first is_line_feed text) place ≡ Some following → (position_or_len is_line_feed text < length text) × (after_first is_line_feed text ≡ following)
found text following None e f = absurd cc
found text following (Some place) e f = let at = at_line_feed text place e in (omega arith, cc)

-- a piece with a line feed ends the line, and the bytes after that begin the next one
pub lines_on-ended : (line : Line) (piece more following : List ℕ) → after_line_feed piece ≡ Some following → lines_on line (piece ++ more) ≡ extended line (before_line_feed piece) ∷ lines_on (Some []) (following ++ more)
lines_on-ended line piece more following e =
    let at = found piece following _ refl e in
    let before = before_line_feed piece in
    let byte = get_or piece (position_or_len is_line_feed piece) 0 in
    ap (λ p. lines_on line (p ++ more)) (split_at_first is_line_feed piece 0 at.0)
    ∙ ap (lines_on line) (append_assoc before (byte ∷ after_first is_line_feed piece) more)
    ∙ lines_on-feed line before (after_first is_line_feed piece ++ more) byte (before_first_none piece) (passes_at_first is_line_feed piece 0 at.0)
    ∙ ap (λ rest. extended line before ∷ lines_on (Some []) (rest ++ more)) at.1

not_found : (text : List ℕ) (place : Option ℕ) → position is_line_feed text ≡ place → option_map (λ _. after_first is_line_feed text) place ≡ None → length text ≤ position_or_len is_line_feed text
not_found text None e f = without_line_feed text e
not_found text (Some place) e f = absurd cc

-- a piece without one goes on the line
pub lines_on-unended : (line : Line) (piece more : List ℕ) → after_line_feed piece ≡ None → lines_on line (piece ++ more) ≡ lines_on (extended line (before_line_feed piece)) more
lines_on-unended line piece more e = grind (arith, not_found, lines_on-bytes, fails_before_first, before_all)

pub following-shorter : (piece following : List ℕ) → after_line_feed piece ≡ Some following → length following < length piece
following-shorter piece following e = let at = found piece following _ refl e in omega (arith, at.0, ap length at.1, length-drop (position_or_len is_line_feed piece + 1) piece)
