-- A text of one line says nothing once its end is lost.
use Rattle.std.proofs.Common.{◌≡◌, ℕ, zero, suc, ◌+◌, ◌-◌, ◌%◌, ◌<◌, ◌^◌, ◌==◌, ◌&&◌, Bool, true, false, List, [], ◌∷◌, ◌++◌, length, take, get_or, codes, decimal, Option, Some, None, refl, ap, arith, if◌then◌else◌, String, string_bytes}
use Rattle.std.specs.Option.{option_and_then}
use Rattle.std.specs.declared.alloc.Global.{Global}
use Rattle.std.specs.List.{flat_map, list_all}
use Rattle.std.proofs.lemmas.Bool.Decides.{nat_tests}
use Rattle.std.proofs.lemmas.Fmt.{decimal_by_steps}
use Rattle.std.proofs.lemmas.List.{get_or-take, length-take-le}
use Rattle.serde_json.specs.Read.{read}
use Rattle.coord_kept.specs.Start.{begun_text, carried_at, carried_in, count_text, is_whole, lines_text, nothing, party_text, quoted}
use Rattle.coord_kept.specs.Torn.{IsNumber, IsParty, are_in_line, is_in_line, is_one_line, LoadedIsOneLine, StartIsOneLine, TornSaysNothing, WrittenIsOneLine}

-- ---- torn texts

both : (b c : Bool) → (b && c) ≡ true → (b ≡ true) × (c ≡ true)
both true true e = (refl, refl)
both true false e = absurd (cc)
both false c e = absurd (cc)

-- no character but the last one is a line feed
in_line : (text : List ℕ) (i : ℕ) → is_one_line text ≡ true → i + 1 < length text → (get_or text i 0 == 10) ≡ false
in_line [] i e less = absurd (omega (arith, less))
in_line (c ∷ []) i e less = absurd (omega (arith, less))
in_line (c ∷ d ∷ text) zero e less = let first = (both (is_in_line c) (is_one_line (d ∷ text)) e).0 in grind (arith, first)
in_line (c ∷ d ∷ text) (suc i) e less = in_line (d ∷ text) i (both (is_in_line c) (is_one_line (d ∷ text)) e).1 (omega (arith, less))

cut : (text : List ℕ) (k : ℕ) → is_one_line text ≡ true → k < length text → is_whole (take k text) ≡ false
cut text zero e less = refl
cut text (suc k) e less =
    let size : length (take (suc k) text) ≡ suc k = length-take-le (suc k) text (omega (arith, less)) in
    let last : get_or (take (suc k) text) k 0 ≡ get_or text k 0 = get_or-take (suc k) text k 0 (omega arith) in
    let other = in_line text k e (omega (arith, less)) in
    let place : length (take (suc k) text) - 1 ≡ k = omega (arith, size) in
    grind (arith, nat_tests, size, place, last, other)

pub torn_says_nothing : TornSaysNothing
unfolding carried_in
torn_says_nothing boot node text k e less =
    ap (λ (b : Bool). if b then option_and_then (carried_at boot node) (read (take k text)) else Some nothing) (cut text k e less)

-- ---- written texts

in_front : (c : ℕ) (text : List ℕ) → is_in_line c ≡ true → is_one_line text ≡ true → is_one_line (c ∷ text) ≡ true
in_front c [] e one = absurd (cc)
in_front c (d ∷ text) e one = grind (arith, e, one)

following : (xs text : List ℕ) → list_all is_in_line xs ≡ true → is_one_line text ≡ true → is_one_line (xs ++ text) ≡ true
following [] text e one = one
following (x ∷ xs) text e one = let parts = both (is_in_line x) (list_all is_in_line xs) e in in_front x (xs ++ text) parts.0 (following xs text parts.1 one)

joined : (xs ys : List ℕ) → list_all is_in_line xs ≡ true → list_all is_in_line ys ≡ true → list_all is_in_line (xs ++ ys) ≡ true
joined [] ys e f = f
joined (x ∷ xs) ys e f = let parts = both (is_in_line x) (list_all is_in_line xs) e in let rest = joined xs ys parts.1 f in let first = parts.0 in grind (arith, first, rest)

digit : (n : ℕ) → n < 10 → is_in_line (48 + n) ≡ true
digit n less = grind (arith, nat_tests, less)

digits : (n : ℕ) → n < 2 ^ 64 → list_all is_in_line (decimal n) ≡ true
digits =
    decimal_by_steps (λ n ds. list_all is_in_line ds ≡ true)
    (λ n below. let e = digit n below in grind (arith, e))
    (λ n ds above is. let e = digit (n % 10) (omega arith) in joined ds ((48 + n % 10) ∷ []) is (grind (arith, e)))

begun_in_line : (begun : Option ℕ) → IsNumber begun → list_all is_in_line (begun_text begun) ≡ true
begun_in_line None is = refl
begun_in_line (Some epoch) is = digits epoch is

quoted_in_line : (line : String Global) → list_all is_in_line (string_bytes line) ≡ true → list_all is_in_line (quoted line) ≡ true
quoted_in_line line e = joined (codes "\"") (string_bytes line ++ codes "\"") refl (joined (string_bytes line) (codes "\"") e refl)

more_in_line : (lines : List (String Global)) → are_in_line lines ≡ true → list_all is_in_line (flat_map (λ l. codes ", " ++ quoted l) lines) ≡ true
more_in_line [] e = refl
more_in_line (line ∷ lines) e =
    let parts = both (list_all is_in_line (string_bytes line)) (are_in_line lines) e in
    joined (codes ", " ++ quoted line) (flat_map (λ l. codes ", " ++ quoted l) lines) (joined (codes ", ") (quoted line) refl (quoted_in_line line parts.0)) (more_in_line lines parts.1)

lines_in_line : (lines : List (String Global)) → are_in_line lines ≡ true → list_all is_in_line (lines_text lines) ≡ true
lines_in_line [] e = refl
lines_in_line (line ∷ lines) e =
    let parts = both (list_all is_in_line (string_bytes line)) (are_in_line lines) e in
    joined (codes "[") (quoted line ++ (flat_map (λ l. codes ", " ++ quoted l) lines ++ codes "]")) refl
    (joined (quoted line) (flat_map (λ l. codes ", " ++ quoted l) lines ++ codes "]") (quoted_in_line line parts.0)
    (joined (flat_map (λ l. codes ", " ++ quoted l) lines) (codes "]") (more_in_line lines parts.1) refl))

party_in_line : (party : Option (List (String Global))) → IsParty party → list_all is_in_line (party_text party) ≡ true
party_in_line None is = refl
party_in_line (Some lines) is = lines_in_line lines is

count_in_line : (count : Option ℕ) → IsNumber count → list_all is_in_line (count_text count) ≡ true
count_in_line None is = refl
count_in_line (Some count) is = joined (codes ", \"count\": ") (decimal count) refl (digits count is)

start_is_one_line : StartIsOneLine
start_is_one_line node begun party count small epoch lines number =
    let last = following (count_text count) (codes "}}\n") (count_in_line count number) refl in
    let parties = following (party_text party) (count_text count ++ codes "}}\n") (party_in_line party lines) last in
    let named = following (codes ", \"party\": ") (party_text party ++ (count_text count ++ codes "}}\n")) refl parties in
    let begins = following (begun_text begun) (codes ", \"party\": " ++ (party_text party ++ (count_text count ++ codes "}}\n"))) (begun_in_line begun epoch) named in
    let opened = following (codes "\": {\"begun\": ") (begun_text begun ++ (codes ", \"party\": " ++ (party_text party ++ (count_text count ++ codes "}}\n")))) refl begins in
    let nodes = following (decimal node) (codes "\": {\"begun\": " ++ (begun_text begun ++ (codes ", \"party\": " ++ (party_text party ++ (count_text count ++ codes "}}\n"))))) (digits node small) opened in
    following (codes "{\"") (decimal node ++ (codes "\": {\"begun\": " ++ (begun_text begun ++ (codes ", \"party\": " ++ (party_text party ++ (count_text count ++ codes "}}\n")))))) refl nodes

loaded_is_one_line : LoadedIsOneLine
loaded_is_one_line node epoch boot small less plain =
    following (codes "{\"") (decimal node ++ (codes "\": {\"begun\": null, \"party\": null, \"loaded\": " ++ (decimal epoch ++ (codes ", \"foreseen\": [], \"boot\": \"" ++ (boot ++ codes "\"}}\n"))))) refl
    (following (decimal node) (codes "\": {\"begun\": null, \"party\": null, \"loaded\": " ++ (decimal epoch ++ (codes ", \"foreseen\": [], \"boot\": \"" ++ (boot ++ codes "\"}}\n")))) (digits node small)
    (following (codes "\": {\"begun\": null, \"party\": null, \"loaded\": ") (decimal epoch ++ (codes ", \"foreseen\": [], \"boot\": \"" ++ (boot ++ codes "\"}}\n"))) refl
    (following (decimal epoch) (codes ", \"foreseen\": [], \"boot\": \"" ++ (boot ++ codes "\"}}\n")) (digits epoch less)
    (following (codes ", \"foreseen\": [], \"boot\": \"") (boot ++ codes "\"}}\n") refl
    (following boot (codes "\"}}\n") plain refl)))))

pub written_is_one_line : WrittenIsOneLine
written_is_one_line = (start_is_one_line, loaded_is_one_line)
