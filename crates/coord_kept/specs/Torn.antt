-- What a power cut leaves of a file that was written and not synced.
use Rattle.std.specs.Prelude.{◌≡◌, ◌<◌, ◌^◌, ℕ, ◌==◌, ◌&&◌, not, Bool, true, false, List, [], ◌∷◌, length, take, Option, Some, None, String, string_bytes}
use Rattle.std.specs.declared.alloc.Global.{Global}
use Rattle.std.specs.List.{list_all}
use Rattle.coord_kept.specs.Start.{carried_in, loaded_text, nothing, start_text}

abbrev pub is_in_line : ℕ → Bool
is_in_line c = not (c == 10)

-- whether the text has one line feed, at its end
abbrev pub is_one_line : List ℕ → Bool
is_one_line [] = false
is_one_line (c ∷ []) = c == 10
is_one_line (c ∷ d ∷ text) = is_in_line c && is_one_line (d ∷ text)

-- a text of one line that lacks its end says that nothing is begun, in any boot
abbrev pub TornSaysNothing : Type 0
TornSaysNothing = (boot : List ℕ) (node : ℕ) (text : List ℕ) (k : ℕ) → is_one_line text ≡ true → k < length text → carried_in boot node (take k text) ≡ Some nothing

abbrev pub are_in_line : List (String Global) → Bool
are_in_line lines = list_all (λ line. list_all is_in_line (string_bytes line)) lines

abbrev pub IsNumber : Option ℕ → Type 0
IsNumber None = Unit {0}
IsNumber (Some n) = n < 2 ^ 64

abbrev pub IsParty : Option (List (String Global)) → Type 0
IsParty None = Unit {0}
IsParty (Some lines) = are_in_line lines ≡ true

abbrev pub StartIsOneLine : Type 0
StartIsOneLine =
    (node : ℕ) (begun : Option ℕ) (party : Option (List (String Global))) (count : Option ℕ) → node < 2 ^ 64 → IsNumber begun → IsParty party → IsNumber count →
    is_one_line (start_text node begun party count) ≡ true

abbrev pub LoadedIsOneLine : Type 0
LoadedIsOneLine = (node epoch : ℕ) (boot : List ℕ) → node < 2 ^ 64 → epoch < 2 ^ 64 → list_all is_in_line boot ≡ true → is_one_line (loaded_text node epoch boot) ≡ true

abbrev pub WrittenIsOneLine : Type 0
WrittenIsOneLine = StartIsOneLine × LoadedIsOneLine
