-- The JSON value that bytes are, or their first characters.
use Rattle.std.proofs.Common.{◌≡◌, ℕ, ◌-◌, Bool, true, false, if◌then◌else◌, List, ◌++◌, Some, None, refl, ap, ◌∙◌, arith, append-nil}
use Rattle.std.proofs.lemmas.Str.{IsUtf8-from_is_utf8, is_utf8-from_IsUtf8}
use Rattle.std.specs.Fmt.{char_count, fill_text, format_spec, padded, take_chars}
use Rattle.std.specs.Str.{IsUtf8, is_utf8}
use Rattle.json.specs.Json.{Json, document, string}
use Rattle.proxy_audit.specs.Lines.{excerpt, or_excerpt, value_or_excerpt}

found_if : (b : Bool) (bytes : List ℕ) (j : Json) → b ≡ true → document bytes ≡ Some j → or_excerpt bytes (if b then document bytes else None) ≡ j
found_if true bytes j text is = ap (or_excerpt bytes) is
found_if false bytes j text is = absurd (cc)

pub found_value : (bytes : List ℕ) (j : Json) → IsUtf8 bytes → document bytes ≡ Some j → value_or_excerpt bytes ≡ j
found_value bytes j text is = found_if (is_utf8 bytes) bytes j (is_utf8-from_IsUtf8 bytes text) is

none_if : (b : Bool) (bytes : List ℕ) → (b ≡ true → document bytes ≡ None) → or_excerpt bytes (if b then document bytes else None) ≡ string (excerpt bytes)
none_if true bytes none = ap (or_excerpt bytes) (none refl)
none_if false bytes none = refl

pub no_value : (bytes : List ℕ) → (IsUtf8 bytes → document bytes ≡ None) → value_or_excerpt bytes ≡ string (excerpt bytes)
no_value bytes none = none_if (is_utf8 bytes) bytes (λ is. none (IsUtf8-from_is_utf8 bytes is))

filled : (shown : List ℕ) (n : ℕ) → n ≡ 0 → shown ++ fill_text (format_spec 32 0 0 0 64) n ≡ shown
filled shown n is = ap (λ k. shown ++ fill_text (format_spec 32 0 0 0 64) k) is ∙ append-nil shown

-- a text that is cut, and not padded
pub cut : (text : List ℕ) → padded (format_spec 32 0 0 0 64) text ≡ take_chars 64 text
unfolding padded
cut text = filled (take_chars 64 text) ((0 - char_count (take_chars 64 text)) - 0) (omega arith)
