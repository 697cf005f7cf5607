-- Texts that were written, and texts of which a first part was written.
use Rattle.std.proofs.Common.{◌≡◌, ℕ, ◌≤◌, List, [], ◌++◌, length, length-append, Option, Some, sym, ap, ◌∙◌, subst, arith, append_assoc}
use Rattle.std.specs.Io.KnownBytes.{Appends, Keeps}
use Rattle.std.proofs.KnownBytes.{Appends-kept}
use Rattle.coord_lines.specs.Written.{IsFirstPart}
use Rattle.coord_drill.specs.Written.{IsShortPart, WritesPart, WritesShort}

-- the text that was written to an empty list has P
pub writes_list : (items : List ℕ) (P : List ℕ → Type 0) → WritesPart (Some []) (Some items) P → P items
writes_list items P one = subst P (sym one.1) one.2

-- ---- first parts

-- all of it was, or all but a rest
pub first_part-all : (written text rest : List ℕ) → written ≡ text → IsFirstPart written (text ++ rest)
first_part-all written text rest is = (rest, ap (λ l. l ++ rest) (sym is))

pub first_part-short : (written text rest : List ℕ) → IsShortPart written text → IsFirstPart written (text ++ rest)
first_part-short written text rest short = (short.0 ++ rest, ap (λ l. l ++ rest) short.1 ∙ append_assoc written short.0 rest)

-- ---- a text is not written whole

pub short_after : (before text part printed : List ℕ) → printed ≡ before ++ text → IsShortPart part text → IsShortPart (before ++ part) printed
short_after before text part printed is short = (short.0, is ∙ ap (λ l. before ++ l) short.1 ∙ sym (append_assoc before part short.0), short.2)

pub short_longer : (part text rest : List ℕ) → IsShortPart part text → IsShortPart part (text ++ rest)
short_longer part text rest short = (short.0 ++ rest, ap (λ l. l ++ rest) short.1 ∙ append_assoc part short.0 rest, omega (arith, length-append short.0 rest, short.2))

-- the rest was not written
pub short_left : (a b : Option (List ℕ)) (text written rest : List ℕ) → Appends a b written → text ≡ written ++ rest → 1 ≤ length rest → WritesShort a b text
short_left a b text written rest h split some = (written, h, (rest, split, some))

-- a text is cut short if a part of it was left, and a call that failed wrote none of that
pub short_kept : (a b c : Option (List ℕ)) (text written rest : List ℕ) → Appends a b written → Keeps b c → text ≡ written ++ rest → 1 ≤ length rest → WritesShort a c text
short_kept a b c text written rest h keeps split some = short_left a c text written rest (Appends-kept a b c written h keeps) split some
