-- The text of an event has no line feed.
use Rattle.std.proofs.Common.{◌≡◌, ◌<◌, ℕ, zero, suc, ◌+◌, ◌&&◌, ◌||◌, ◌==◌, not, Bool, true, false, cond, List, [], ◌∷◌, ◌++◌, drop, take, Option, Some, None, option_and_then, inl, inr, refl, sym, ap, ◌∙◌, subst, arith, append_assoc, append-nil}
use Rattle.std.proofs.Math.Numerals.{one-add}
use Rattle.std.proofs.lemmas.Bool.{and_from, and_parts, cases_eq, cases_lt, eqb-true, leb-true, ne_eqb, or_cases}
use Rattle.std.proofs.lemmas.List.{take-append-drop}
use Rattle.std.proofs.lemmas.List.Folds.{list_all-append}
use Rattle.std.specs.Char.{is_ascii_digit}
use Rattle.std.specs.List.{list_all, prefix_len}
use Rattle.json.specs.Token as token
use Rattle.json.specs.Token.{Token}
use Rattle.json.specs.Print.{ArePrintable, IsNumber, IsPrintable, ends, escape, escape_byte, print_from, quoted, separator, token_text}
use Rattle.json.specs.Tree.{json_tokens}
use Rattle.json.specs.Word.{after_digits, after_exponent, after_fraction, after_minus, after_number, after_sign, head}
use Rattle.json.proofs.Printed.Strings.{escape_byte_plain}
use Rattle.json.proofs.Printed.Trees.{ArePrintable-json_tokens}
use Rattle.proxy_audit.specs.Laws.{EventIsOneLine, is_in_line}
use Rattle.proxy_audit.specs.Lines.{entry}
use Rattle.proxy_audit.proofs.Reading.{numbers}

abbrev is_clean : List ℕ → Bool
is_clean xs = list_all is_in_line xs

clean_append : (xs ys : List ℕ) → is_clean xs ≡ true → is_clean ys ≡ true → is_clean (xs ++ ys) ≡ true
clean_append xs ys hx hy = list_all-append is_in_line xs ys ∙ and_from _ _ hx hy

-- ---- strings

abbrev clean_below : ℕ → Bool
clean_below zero = true
clean_below (suc n) = is_clean (escape_byte n) && clean_below n

escape_below : (n : ℕ) → clean_below n ≡ true → (x : ℕ) → x < n → is_clean (escape_byte x) ≡ true
escape_below zero all x less = absurd (omega arith)
escape_below (suc n) all x less =
    let p = and_parts _ _ all in
    elim (cases_eq x n) [ inl same ↦ rw same p.0 | inr other ↦ escape_below n p.1 x (omega arith) ]

all_below : clean_below 128 ≡ true
unfolding escape_byte
all_below = refl

byte_clean : (x : ℕ) → is_clean (escape_byte x) ≡ true
byte_clean x = elim (cases_lt x 128) [
  | inl small ↦ escape_below 128 all_below x small
  | inr big ↦ rw (escape_byte_plain x (λ e. omega arith) (λ e. omega arith) (omega arith), ne_eqb x 10 (λ e. omega arith)) refl
]

escape_clean : (s : List ℕ) → is_clean (escape s) ≡ true
escape_clean [] = refl
escape_clean (x ∷ s) = clean_append (escape_byte x) (escape s) (byte_clean x) (escape_clean s)

quoted_clean : (s : List ℕ) → is_clean (quoted s) ≡ true
quoted_clean s = clean_append (escape s) (34 ∷ []) (escape_clean s) refl

-- ---- numbers

-- a text is a part without a line feed, and joined this
abbrev Leaves : List ℕ → List ℕ → Type 0
Leaves t r = (part : List ℕ) × (t ≡ part ++ r) × (is_clean part ≡ true)

nothing : (t : List ℕ) → Leaves t t
nothing t = ([], refl, refl)

joined : (t u r : List ℕ) → Leaves t u → Leaves u r → Leaves t r
joined t u r one two = (one.0 ++ two.0, one.1 ∙ ap (λ l. one.0 ++ l) two.1 ∙ sym (append_assoc one.0 two.0 r), clean_append one.0 two.0 one.2 two.2)

-- the first byte, which is no line feed
one_byte : (t : List ℕ) → (head t == 10) ≡ false → Leaves t (drop 1 t)
one_byte [] fails = ([], refl, refl)
one_byte (x ∷ t) fails = (x ∷ [], refl, rw fails refl)

byte_if : (b : Bool) (t : List ℕ) → (b ≡ true → (head t == 10) ≡ false) → Leaves t (cond b (drop 1 t) t)
byte_if true t fails = one_byte t (fails refl)
byte_if false t fails = nothing t

is_not : (x c : ℕ) → (c == 10) ≡ false → (x == c) ≡ true → (x == 10) ≡ false
is_not x c other is = ap (λ y. y == 10) (eqb-true x c is) ∙ other

is_neither : (x c d : ℕ) → (c == 10) ≡ false → (d == 10) ≡ false → ((x == c) || (x == d)) ≡ true → (x == 10) ≡ false
is_neither x c d one two is = elim (or_cases _ _ is) [ inl e ↦ is_not x c one e | inr e ↦ is_not x d two e ]

digit_is_not : (x : ℕ) → is_ascii_digit x ≡ true → (x == 10) ≡ false
digit_is_not x is = ne_eqb x 10 (λ e. omega (arith, leb-true 48 x (and_parts _ _ is).0))

digits_step : (b : Bool) (x : ℕ) (t : List ℕ) → (b ≡ true → (x == 10) ≡ false) → is_clean (take (prefix_len is_ascii_digit t) t) ≡ true
    → is_clean (take (cond b (1 + prefix_len is_ascii_digit t) 0) (x ∷ t)) ≡ true
digits_step true x t fails rest = rw (one-add (prefix_len is_ascii_digit t)) (and_from _ _ (ap not (fails refl)) rest)
digits_step false x t fails rest = refl

digits_clean : (t : List ℕ) → is_clean (take (prefix_len is_ascii_digit t) t) ≡ true
digits_clean [] = refl
digits_clean (x ∷ t) = digits_step (is_ascii_digit x) x t (digit_is_not x) (digits_clean t)

digits_if : (b : Bool) (t r : List ℕ) → cond b None (Some (drop (prefix_len is_ascii_digit t) t)) ≡ Some r → Leaves t r
digits_if true t r is = absurd (cc)
digits_if false t r is =
    let k : ℕ = prefix_len is_ascii_digit t in
    let same : drop k t ≡ r = cc in
    subst (Leaves t) same (take k t, sym (take-append-drop k t), digits_clean t)

digits_leave : (t r : List ℕ) → after_digits t ≡ Some r → Leaves t r
digits_leave t r is = digits_if (prefix_len is_ascii_digit t == 0) t r is

whole_leaves : (b : Bool) (t r : List ℕ) → (b ≡ true → (head t == 10) ≡ false) → cond b (Some (drop 1 t)) (after_digits t) ≡ Some r → Leaves t r
whole_leaves true t r fails is = let same : drop 1 t ≡ r = cc in subst (Leaves t) same (one_byte t (fails refl))
whole_leaves false t r fails is = digits_leave t r is

fraction_leaves : (b : Bool) (t r : List ℕ) → (b ≡ true → (head t == 10) ≡ false) → cond b (after_digits (drop 1 t)) (Some t) ≡ Some r → Leaves t r
fraction_leaves true t r fails is = joined t (drop 1 t) r (one_byte t (fails refl)) (digits_leave (drop 1 t) r is)
fraction_leaves false t r fails is = let same : t ≡ r = cc in subst (Leaves t) same (nothing t)

sign_leaves : (t : List ℕ) → Leaves t (after_sign t)
sign_leaves t = byte_if ((head t == 45) || (head t == 43)) t (is_neither (head t) 45 43 refl refl)

exponent_leaves : (b : Bool) (t r : List ℕ) → (b ≡ true → (head t == 10) ≡ false) → cond b (after_digits (after_sign (drop 1 t))) (Some t) ≡ Some r → Leaves t r
exponent_leaves true t r fails is =
    joined t (drop 1 t) r (one_byte t (fails refl)) (joined (drop 1 t) (after_sign (drop 1 t)) r (sign_leaves (drop 1 t)) (digits_leave (after_sign (drop 1 t)) r is))
exponent_leaves false t r fails is = let same : t ≡ r = cc in subst (Leaves t) same (nothing t)

some_before : (f : List ℕ → Option (List ℕ)) (o : Option (List ℕ)) (r : List ℕ) → option_and_then f o ≡ Some r → (u : List ℕ) × (o ≡ Some u) × (f u ≡ Some r)
some_before f None r is = absurd (cc)
some_before f (Some u) r is = (u, refl, is)

number_clean : (s : List ℕ) → IsNumber s → is_clean s ≡ true
unfolding after_number
number_clean s is =
    let last = some_before after_exponent _ [] is in
    let middle = some_before after_fraction _ last.0 last.1 in
    let minus : Leaves s (after_minus s) = byte_if (head s == 45) s (is_not (head s) 45 refl) in
    let whole : Leaves (after_minus s) middle.0 = whole_leaves (head (after_minus s) == 48) (after_minus s) middle.0 (is_not (head (after_minus s)) 48 refl) middle.1 in
    let fraction : Leaves middle.0 last.0 = fraction_leaves (head middle.0 == 46) middle.0 last.0 (is_not (head middle.0) 46 refl) middle.2 in
    let exponent : Leaves last.0 [] = exponent_leaves ((head last.0 == 101) || (head last.0 == 69)) last.0 [] (is_neither (head last.0) 101 69 refl refl) last.2 in
    let all = joined s (after_minus s) [] minus (joined (after_minus s) middle.0 [] whole (joined middle.0 last.0 [] fraction exponent)) in
    ap is_clean (all.1 ∙ append-nil all.0) ∙ all.2

-- ---- tokens

token_clean : (t : Token) → IsPrintable t → is_clean (token_text t) ≡ true
token_clean token.begin_object is = refl
token_clean token.end_object is = refl
token_clean token.begin_array is = refl
token_clean token.end_array is = refl
token_clean (token.key s) is = clean_append (quoted s) (58 ∷ []) (quoted_clean s) refl
token_clean (token.string s) is = quoted_clean s
token_clean (token.number s) is = number_clean s is
token_clean (token.boolean true) is = refl
token_clean (token.boolean false) is = refl
token_clean token.null is = refl
token_clean token.bad is = absurd is

comma_clean : (b : Bool) → is_clean (cond b (44 ∷ []) []) ≡ true
comma_clean true = refl
comma_clean false = refl

print_clean : (after_value : Bool) (ts : List Token) → ArePrintable ts → is_clean (print_from after_value ts) ≡ true
unfolding print_from ArePrintable
print_clean after_value [] are = refl
print_clean after_value (t ∷ ts) are =
    clean_append (separator after_value t) (token_text t ++ print_from (ends t) ts) (comma_clean _)
    (clean_append (token_text t) (print_from (ends t) ts) (token_clean t are.0) (print_clean (ends t) ts are.1))

pub event_is_one_line : EventIsOneLine
event_is_one_line time e fits = print_clean false (json_tokens (entry time e)) (ArePrintable-json_tokens (entry time e) (tt, numbers e fits))
