-- Equal texts are of equal parties.
use Rattle.std.proofs.Common.{◌≡◌, ℕ, ◌+◌, ◌<◌, ◌≤◌, ◌^◌, ◌%◌, List, [], ◌∷◌, ◌++◌, refl, sym, ap, ◌∙◌, arith, append_assoc, decimal}
use Rattle.std.specs.List.{AllByRecursion}
use Rattle.std.proofs.lemmas.Fmt.{decimal_by_steps, decimal_injective}
use Rattle.coord_member.specs.declared.view.Entry.{Entry}
use Rattle.coord_member.specs.declared.view.Entry.TheVariants.{Node, Link}
use Rattle.coord_member.specs.Text.{entry_line, party_text, IsWritten, PartyTextInjective}

-- ---- digits, and the text after them

-- no space and no line feed
abbrev IsDigit : ℕ → Type 0
IsDigit n = 48 ≤ n

more_digits : (xs ys : List ℕ) → AllByRecursion IsDigit xs → AllByRecursion IsDigit ys → AllByRecursion IsDigit (xs ++ ys)
more_digits [] ys a b = b
more_digits (x ∷ xs) ys a b = (a.0, more_digits xs ys a.1 b)

digits : (n : ℕ) → n < 2 ^ 64 → AllByRecursion IsDigit (decimal n)
digits = decimal_by_steps (λ n ds. AllByRecursion IsDigit ds) (λ n below. (omega arith, tt)) (λ n ds above is. more_digits ds ((48 + n % 10) ∷ []) is (omega arith, tt))

-- two texts are the same up to the first character that isn't a digit, there, and after it
record IsSplit (xs ys : List ℕ) (c d : ℕ) (vs ws : List ℕ) : Type 0 where
  before : xs ≡ ys
  at : c ≡ d
  following : vs ≡ ws

split : (xs ys : List ℕ) (c d : ℕ) (vs ws : List ℕ) → AllByRecursion IsDigit xs → AllByRecursion IsDigit ys → c < 48 → d < 48 → xs ++ (c ∷ vs) ≡ ys ++ (d ∷ ws) → IsSplit xs ys c d vs ws
split [] [] c d vs ws a b low lower e = record { before = refl; at = cc; following = cc }
split [] (y ∷ ys) c d vs ws a b low lower e = absurd (let same : c ≡ y = cc in let high = b.0 in omega (arith, same, high, low))
split (x ∷ xs) [] c d vs ws a b low lower e = absurd (let same : x ≡ d = cc in let high = a.0 in omega (arith, same, high, lower))
split (x ∷ xs) (y ∷ ys) c d vs ws a b low lower e =
    let first : x ≡ y = cc in
    let rest : xs ++ (c ∷ vs) ≡ ys ++ (d ∷ ws) = cc in
    let is = split xs ys c d vs ws a.1 b.1 low lower rest in
    let same = is.before in
    record { before = cc; at = is.at; following = is.following }

-- a number, and what follows it
record SameNumber (n m c d : ℕ) (vs ws : List ℕ) : Type 0 where
  number : n ≡ m
  at : c ≡ d
  following : vs ≡ ws

same_number : (n m c d : ℕ) (vs ws : List ℕ) → n < 2 ^ 64 → m < 2 ^ 64 → c < 48 → d < 48 → decimal n ++ (c ∷ vs) ≡ decimal m ++ (d ∷ ws) → SameNumber n m c d vs ws
same_number n m c d vs ws small smaller low lower e =
    let is = split (decimal n) (decimal m) c d vs ws (digits n small) (digits m smaller) low lower e in
    record { number = decimal_injective n m small smaller is.before; at = is.at; following = is.following }

-- ---- lines, each with what follows it

abbrev line_before : Entry → List ℕ → List ℕ
line_before (Node n e) rest = decimal n ++ (32 ∷ (decimal e ++ (10 ∷ rest)))
line_before (Link a b i) rest = decimal a ++ (32 ∷ (decimal b ++ (32 ∷ (decimal i ++ (10 ∷ rest)))))

line_is : (x : Entry) (rest : List ℕ) → entry_line x ++ rest ≡ line_before x rest
line_is (Node n e) rest = append_assoc (decimal n) (32 ∷ (decimal e ++ (10 ∷ []))) rest ∙ ap (λ r. decimal n ++ (32 ∷ r)) (append_assoc (decimal e) (10 ∷ []) rest)
line_is (Link a b i) rest =
    append_assoc (decimal a) (32 ∷ (decimal b ++ (32 ∷ (decimal i ++ (10 ∷ []))))) rest
    ∙ ap (λ r. decimal a ++ (32 ∷ r)) (append_assoc (decimal b) (32 ∷ (decimal i ++ (10 ∷ []))) rest ∙ ap (λ r. decimal b ++ (32 ∷ r)) (append_assoc (decimal i) (10 ∷ []) rest))

not_nothing : (xs ys : List ℕ) (c : ℕ) → xs ++ (c ∷ ys) ≡ [] → ⊥
not_nothing [] ys c e = absurd (cc)
not_nothing (x ∷ xs) ys c e = absurd (cc)

has_a_line : (x : Entry) (rest : List ℕ) → line_before x rest ≡ [] → ⊥
has_a_line (Node n e) rest none = not_nothing (decimal n) (decimal e ++ (10 ∷ rest)) 32 none
has_a_line (Link a b i) rest none = not_nothing (decimal a) (decimal b ++ (32 ∷ (decimal i ++ (10 ∷ rest)))) 32 none

record SameLine (x y : Entry) (p q : List ℕ) : Type 0 where
  entry : x ≡ y
  following : p ≡ q

same_line : (x y : Entry) (p q : List ℕ) → IsWritten x → IsWritten y → line_before x p ≡ line_before y q → SameLine x y p q
same_line (Node n e) (Node m f) p q a b same =
    let one = same_number n m 32 32 (decimal e ++ (10 ∷ p)) (decimal f ++ (10 ∷ q)) a.0 b.0 (omega arith) (omega arith) same in
    let two = same_number e f 10 10 p q a.1 b.1 (omega arith) (omega arith) one.following in
    let n_m = one.number in
    let e_f = two.number in
    record { entry = cc; following = two.following }
same_line (Node n e) (Link c d j) p q a b same =
    let one = same_number n c 32 32 (decimal e ++ (10 ∷ p)) (decimal d ++ (32 ∷ (decimal j ++ (10 ∷ q)))) a.0 b.0 (omega arith) (omega arith) same in
    let two = same_number e d 10 32 p (decimal j ++ (10 ∷ q)) a.1 b.1 (omega arith) (omega arith) one.following in
    absurd (let at = two.at in omega (arith, at))
same_line (Link c d j) (Node n e) p q a b same =
    let one = same_number c n 32 32 (decimal d ++ (32 ∷ (decimal j ++ (10 ∷ p)))) (decimal e ++ (10 ∷ q)) a.0 b.0 (omega arith) (omega arith) same in
    let two = same_number d e 32 10 (decimal j ++ (10 ∷ p)) q a.1 b.1 (omega arith) (omega arith) one.following in
    absurd (let at = two.at in omega (arith, at))
same_line (Link c d j) (Link g h k) p q a b same =
    let one = same_number c g 32 32 (decimal d ++ (32 ∷ (decimal j ++ (10 ∷ p)))) (decimal h ++ (32 ∷ (decimal k ++ (10 ∷ q)))) a.0 b.0 (omega arith) (omega arith) same in
    let two = same_number d h 32 32 (decimal j ++ (10 ∷ p)) (decimal k ++ (10 ∷ q)) a.1 b.1 (omega arith) (omega arith) one.following in
    let three = same_number j k 10 10 p q a.2 b.2 (omega arith) (omega arith) two.following in
    let c_g = one.number in
    let d_h = two.number in
    let j_k = three.number in
    record { entry = cc; following = three.following }

pub party_text_injective : PartyTextInjective
party_text_injective [] [] a b e = refl
party_text_injective [] (y ∷ q) a b e = absurd (has_a_line y (party_text q) (sym (line_is y (party_text q)) ∙ sym e))
party_text_injective (x ∷ p) [] a b e = absurd (has_a_line x (party_text p) (sym (line_is x (party_text p)) ∙ e))
party_text_injective (x ∷ p) (y ∷ q) a b e =
    let line = same_line x y (party_text p) (party_text q) a.0 b.0 (sym (line_is x (party_text p)) ∙ (e ∙ line_is y (party_text q))) in
    let first = line.entry in
    let rest = party_text_injective p q a.1 b.1 line.following in
    cc
