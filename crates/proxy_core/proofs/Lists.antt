-- Lines by their connection and their places, answers by what was heard, and counts of them.
use Rattle.std.proofs.Common.{◌≡◌, ℕ, zero, suc, ◌+◌, ◌≤◌, ◌<◌, ◌==◌, ◌&&◌, ◌||◌, not, nat_le, Bool, true, false, List, [], ◌∷◌, ◌++◌, length, map, filter, count_by, refl, sym, ap, subst, ◌∙◌, arith, inl, inr, append_assoc, append-nil, cond}
use Rattle.std.specs.List.{AllByRecursion, list_all}
use Rattle.std.proofs.lemmas.Bool.Decides.{nat_tests}
use Rattle.std.proofs.lemmas.List.Sums.{sum_by-cons, sum_by-insert, sum_by_push}
use Rattle.proxy_core.specs.Rules.{Rules, as_sent, next, needs_number}
use Rattle.proxy_core.specs.Pending.{Pending, is_from, step, text_of}
use Rattle.proxy_core.specs.Machine.{is_alike, is_among, is_flight, is_in_turn, left, picked, put_back, rest}
use Rattle.proxy_core.specs.Run.{Request, Sent, Delivery, Answer, is_ended, without, written}
use Rattle.proxy_core.specs.Promises.{AreNumbered, AreOf, by_server, bytes_of, pending_of, one_by_server, place_if, places_of, places_delivered, sending, sendings}

-- ---- tests

pub either : {X : Type 0} (P : X → Type 0) (b : Bool) (x y : X) → (b ≡ true → P x) → (b ≡ false → P y) → P (cond b x y)
either P true x y this that = this refl
either P false x y this that = that refl

pub both_true : (a b : Bool) → (a && b) ≡ true → (a ≡ true) × (b ≡ true)
both_true true b h = (refl, h)
both_true false b h = absurd (cc h)

pub both_false : (a b : Bool) → (a || b) ≡ false → (a ≡ false) × (b ≡ false)
both_false true b h = absurd (cc h)
both_false false b h = (refl, h)

-- ---- lines by their connection

pub of-append : (c : ℕ) (xs ys : List Request) → places_of c (xs ++ ys) ≡ places_of c xs ++ places_of c ys
of-append c [] ys = refl
of-append c (a ∷ more) ys = ap (λ l. place_if (a.from == c) a.place ++ l) (of-append c more ys) ∙ sym (append_assoc (place_if (a.from == c) a.place) (places_of c more) (places_of c ys))

pub delivered-append : (c : ℕ) (xs ys : List Delivery) → places_delivered c (xs ++ ys) ≡ places_delivered c xs ++ places_delivered c ys
delivered-append c [] ys = refl
delivered-append c (a ∷ more) ys = ap (λ l. place_if (a.to == c) a.place ++ l) (delivered-append c more ys) ∙ sym (append_assoc (place_if (a.to == c) a.place) (places_delivered c more) (places_delivered c ys))

pub server-append : (xs ys : List Delivery) → by_server (xs ++ ys) ≡ by_server xs ++ by_server ys
server-append [] ys = refl
server-append (t ∷ more) ys = ap (λ l. one_by_server t t.answer ++ l) (server-append more ys) ∙ sym (append_assoc (one_by_server t t.answer) (by_server more) (by_server ys))

pub of_push : (c : ℕ) (xs : List Request) (a : Request) → places_of c (xs ++ a ∷ []) ≡ places_of c xs ++ place_if (a.from == c) a.place
of_push c xs a = of-append c xs (a ∷ []) ∙ ap (λ l. places_of c xs ++ l) (append-nil (place_if (a.from == c) a.place))

pub delivered_push : (c : ℕ) (xs : List Delivery) (a : Delivery) → places_delivered c (xs ++ a ∷ []) ≡ places_delivered c xs ++ place_if (a.to == c) a.place
delivered_push c xs a = delivered-append c xs (a ∷ []) ∙ ap (λ l. places_delivered c xs ++ l) (append-nil (place_if (a.to == c) a.place))

-- what is left without those of another connection
pub from_other : (c d : ℕ) → (c == d) ≡ false → (xs : List Request) → places_of d (without c xs) ≡ places_of d xs
from_other c d apart [] = refl
from_other c d apart (a ∷ more) =
    elim (a.from == c) as (λ b. (a.from == c) ≡ b → places_of d (cond (not b) (a ∷ without c more) (without c more)) ≡ places_of d (a ∷ more)) [
      | true ↦ λ so. (let other : (a.from == d) ≡ false = grind (arith, nat_tests) in rw other (from_other c d apart more))
      | false ↦ λ not_so. ap (λ l. place_if (a.from == d) a.place ++ l) (from_other c d apart more)
    ] refl

pub none_from : (r : Rules) (c : ℕ) (xs : List Request) → count_by (is_from c) (map (pending_of r) xs) ≡ 0 → places_of c xs ≡ []
none_from r c [] none = refl
none_from r c (a ∷ more) none =
    elim (a.from == c) as (λ b. cond b 1 0 + count_by (is_from c) (map (pending_of r) more) ≡ 0 → place_if b a.place ++ places_of c more ≡ []) [
      | true ↦ λ some. absurd (omega arith)
      | false ↦ λ others. none_from r c more (omega arith)
    ] (sym (sum_by-cons (λ x. cond (is_from c x) 1 0) (pending_of r a) (map (pending_of r) more)) ∙ none)

-- a connection that is not over is another than one that is
pub ended_apart : (c d : ℕ) (ended : List ℕ) → is_ended c ended ≡ false → is_ended d ended ≡ true → (c == d) ≡ false
ended_apart c d ended going over =
    elim (c == d) as (λ b. (c == d) ≡ b → b ≡ false) [
      | true ↦ λ same. (let e : c ≡ d = grind (arith, nat_tests) in let both : is_ended c ended ≡ true = subst (λ x. is_ended x ended ≡ true) (sym e) over in cc)
      | false ↦ λ other. refl
    ] refl

-- ---- asked lines as the front has them, and as they are written

pub picked_pending_of : (r : Rules) (picks : List Bool) (xs : List Request) → picked picks (map (pending_of r) xs) ≡ map (pending_of r) (picked picks xs)
picked_pending_of r [] xs = refl
picked_pending_of r (pick ∷ picks) [] = refl
picked_pending_of r (true ∷ picks) (x ∷ xs) = ap (λ l. pending_of r x ∷ l) (picked_pending_of r picks xs)
picked_pending_of r (false ∷ picks) (x ∷ xs) = picked_pending_of r picks xs

pub left_pending_of : (r : Rules) (picks : List Bool) (xs : List Request) → left picks (map (pending_of r) xs) ≡ map (pending_of r) (left picks xs)
left_pending_of r [] xs = refl
left_pending_of r (pick ∷ picks) [] = refl
left_pending_of r (true ∷ picks) (x ∷ xs) = left_pending_of r picks xs
left_pending_of r (false ∷ picks) (x ∷ xs) = ap (λ l. pending_of r x ∷ l) (left_pending_of r picks xs)

pub without_pending_of : (r : Rules) (c : ℕ) (xs : List Request) → filter (λ a. not (is_from c a)) (map (pending_of r) xs) ≡ map (pending_of r) (without c xs)
without_pending_of r c [] = refl
without_pending_of r c (x ∷ xs) =
    elim (x.from == c) as (λ b. cond (not b) (pending_of r x ∷ filter (λ a. not (is_from c a)) (map (pending_of r) xs)) (filter (λ a. not (is_from c a)) (map (pending_of r) xs)) ≡ map (pending_of r) (cond (not b) (x ∷ without c xs) (without c xs))) [
      | true ↦ without_pending_of r c xs
      | false ↦ ap (λ l. pending_of r x ∷ l) (without_pending_of r c xs)
    ]

pub written_of : (r : Rules) (taken : ℕ) (first : Bool) (serial number : ℕ) (xs : List Request) → written r taken first serial number xs (map (pending_of r) xs) ≡ sendings r taken first serial number xs
written_of r taken first serial number [] = refl
written_of r taken first serial number (x ∷ xs) = ap (λ l. sending r taken first serial (next number) x ∷ l) (written_of r taken first (serial + 1) (step (needs_number r x.line) number) xs)

pub text_same : (r : Rules) (taken : ℕ) (first : Bool) (serial number : ℕ) (xs : List Request) → text_of r number (map (pending_of r) xs) ≡ bytes_of (sendings r taken first serial number xs)
text_same r taken first serial number [] = refl
text_same r taken first serial number (x ∷ xs) = ap (λ l. (as_sent r (next number) (needs_number r x.line) x.line ++ (10 ∷ [])) ++ l) (text_same r taken first (serial + 1) (step (needs_number r x.line) number) xs)

-- how many of those that are written pass a test
pub count_sendings : (r : Rules) (taken : ℕ) (first : Bool) (test : Sent → Bool) (ask : Request → Bool) → ((serial number : ℕ) (a : Request) → test (sending r taken first serial number a) ≡ ask a)
    → (serial number : ℕ) (xs : List Request) → count_by test (sendings r taken first serial number xs) ≡ count_by ask xs
count_sendings r taken first test ask same serial number [] = refl
count_sendings r taken first test ask same serial number (x ∷ xs) =
    let rest = count_sendings r taken first test ask same (serial + 1) (step (needs_number r x.line) number) xs in
    let s : Sent = sending r taken first serial (next number) x in
    let more : List Sent = sendings r taken first (serial + 1) (step (needs_number r x.line) number) xs in
    let one : cond {A = ℕ} (test s) 1 0 ≡ cond {A = ℕ} (ask x) 1 0 = ap (λ b. cond {A = ℕ} b 1 0) (same serial (next number) x) in
    omega (arith, rest, one, sum_by-cons (λ y. cond {A = ℕ} (test y) 1 0) s more, sum_by-cons (λ y. cond {A = ℕ} (ask y) 1 0) x xs)

-- ---- places

pub numbered_push : (n : ℕ) (xs : List Request) (a : Request) → a.place ≡ n + length xs → AreNumbered n xs → AreNumbered n (xs ++ a ∷ [])
numbered_push n [] a at all = (omega (arith, at), tt)
numbered_push n (x ∷ xs) a at all = (all.0, numbered_push (n + 1) xs a (omega (arith, at)) all.1)

no_place : (p n : ℕ) (xs : List Request) → p < n → AreNumbered n xs → count_by (λ (a : Request). a.place == p) xs ≡ 0
no_place p n [] less all = refl
no_place p n (x ∷ xs) less all =
    let rest = no_place p (n + 1) xs (omega (arith, less)) all.1 in
    let at = all.0 in
    let other : (x.place == p) ≡ false = grind (arith, nat_tests) in
    let whole : count_by (λ (a : Request). a.place == p) (x ∷ xs) ≡ cond {A = ℕ} (x.place == p) 1 0 + count_by (λ (a : Request). a.place == p) xs = sum_by-cons (λ (a : Request). cond (a.place == p) 1 0) x xs in
    let none : cond {A = ℕ} (x.place == p) 1 0 ≡ 0 = ap (λ b. cond {A = ℕ} b 1 0) other in
    omega (arith, rest, whole, none)

pub one_place : (p n : ℕ) (xs : List Request) → AreNumbered n xs → count_by (λ (a : Request). a.place == p) xs ≤ 1
one_place p n [] all = omega arith
one_place p n (x ∷ xs) all =
    let whole : count_by (λ (a : Request). a.place == p) (x ∷ xs) ≡ cond {A = ℕ} (x.place == p) 1 0 + count_by (λ (a : Request). a.place == p) xs = sum_by-cons (λ (a : Request). cond (a.place == p) 1 0) x xs in
    let at = all.0 in
    elim (x.place == p) as (λ b. (x.place == p) ≡ b → count_by (λ (a : Request). a.place == p) (x ∷ xs) ≡ cond {A = ℕ} b 1 0 + count_by (λ (a : Request). a.place == p) xs → count_by (λ (a : Request). a.place == p) (x ∷ xs) ≤ 1) [
      | true ↦ λ so e. (let here : x.place ≡ p = grind (arith, nat_tests) in let none = no_place p (n + 1) xs (omega (arith, here, at)) all.1 in omega (arith, e, none))
      | false ↦ λ so e. (let fits = one_place p (n + 1) xs all.1 in omega (arith, e, fits))
    ] refl whole

pub map_put : {X Y : Type 0} (f : X → Y) (k : ℕ) (x : X) (xs : List X) → put_back k (f x ∷ []) (map f xs) ≡ map f (put_back k (x ∷ []) xs)
map_put f zero x xs = refl
map_put f (suc k) x [] = refl
map_put f (suc k) x (y ∷ ys) = ap (λ l. f y ∷ l) (map_put f k x ys)

-- ---- what is picked, and what stays

among_more : (c d : ℕ) (ds : List ℕ) → is_among c ds ≡ true → is_among c (d ∷ ds) ≡ true
among_more c d ds is = elim (d == c) as (λ b. (b || is_among c ds) ≡ true) [ true ↦ refl | false ↦ is ]

-- of a connection of which a line stays none is picked
none_picked : (r : Rules) (c : ℕ) (stay : List ℕ) (picks : List Bool) (xs : List Request) → is_among c stay ≡ true → is_in_turn stay picks (map (pending_of r) xs) ≡ true
    → (places_of c (picked picks xs) ≡ []) × (places_of c (left picks xs) ≡ places_of c xs)
none_picked r c stay [] xs stays turn = (refl, refl)
none_picked r c stay (pick ∷ picks) [] stays turn = (refl, refl)
none_picked r c stay (true ∷ picks) (a ∷ more) stays turn =
    let p = both_true (not (is_among a.from stay)) (is_in_turn stay picks (map (pending_of r) more)) turn in
    let apart : (a.from == c) ≡ false = ended_apart a.from c stay (not_true (is_among a.from stay) p.0) stays in
    let rest = none_picked r c stay picks more stays p.1 in
    (ap (λ b. place_if b a.place ++ places_of c (picked picks more)) apart ∙ rest.0, rest.1 ∙ sym (ap (λ b. place_if b a.place ++ places_of c more) apart))
  where
    not_true : (b : Bool) → not b ≡ true → b ≡ false
    not_true true h = absurd (cc h)
    not_true false h = refl
none_picked r c stay (false ∷ picks) (a ∷ more) stays turn =
    let rest = none_picked r c (a.from ∷ stay) picks more (among_more c a.from stay stays) turn in
    (rest.0, ap (λ l. place_if (a.from == c) a.place ++ l) rest.1)

-- of each the first are
pub from_picked : (r : Rules) (c : ℕ) (stay : List ℕ) (picks : List Bool) (xs : List Request) → is_in_turn stay picks (map (pending_of r) xs) ≡ true
    → places_of c (picked picks xs) ++ places_of c (left picks xs) ≡ places_of c xs
from_picked r c stay [] xs turn = refl
from_picked r c stay (pick ∷ picks) [] turn = refl
from_picked r c stay (true ∷ picks) (a ∷ more) turn =
    let p = both_true (not (is_among a.from stay)) (is_in_turn stay picks (map (pending_of r) more)) turn in
    append_assoc (place_if (a.from == c) a.place) (places_of c (picked picks more)) (places_of c (left picks more))
    ∙ ap (λ l. place_if (a.from == c) a.place ++ l) (from_picked r c stay picks more p.1)
from_picked r c stay (false ∷ picks) (a ∷ more) turn =
    elim (a.from == c) as (λ b. (a.from == c) ≡ b → places_of c (picked picks more) ++ (place_if b a.place ++ places_of c (left picks more)) ≡ place_if b a.place ++ places_of c more) [
      | true ↦ λ so. (
          let here : is_among c (a.from ∷ stay) ≡ true = ap (λ b. b || is_among c stay) so in
          let none = none_picked r c (a.from ∷ stay) picks more here turn in
          ap (λ l. l ++ (a.place ∷ places_of c (left picks more))) none.0 ∙ ap (λ l. a.place ∷ l) none.1)
      | false ↦ λ so. from_picked r c (a.from ∷ stay) picks more turn
    ] refl

-- ---- answers by what was heard

pub are_more : (P : Delivery → Answer → Type 0) (ts : List Delivery) (hs more : List Answer) → AreOf P ts hs → AreOf P ts (hs ++ more)
are_more P [] hs more all = tt
are_more P (t ∷ ts) [] more all = absurd all
are_more P (t ∷ ts) (h ∷ hs) more all = elim all [ inl p ↦ inl (p.0, are_more P ts hs more p.1) | inr q ↦ inr (are_more P (t ∷ ts) hs more q) ]

pub are_push : (P : Delivery → Answer → Type 0) (ts : List Delivery) (hs : List Answer) (t : Delivery) (h : Answer) → AreOf P ts hs → P t h → AreOf P (ts ++ t ∷ []) (hs ++ h ∷ [])
are_push P [] [] t h all is = inl (is, tt)
are_push P [] (g ∷ hs) t h all is = inr (are_push P [] hs t h tt is)
are_push P (s ∷ ts) [] t h all is = absurd all
are_push P (s ∷ ts) (g ∷ hs) t h all is = elim all [ inl p ↦ inl (p.0, are_push P ts hs t h p.1 is) | inr q ↦ inr (are_push P (s ∷ ts) hs t h q is) ]

pub are_weaker : (P Q : Delivery → Answer → Type 0) → ((t : Delivery) (h : Answer) → P t h → Q t h) → (ts : List Delivery) (hs : List Answer) → AreOf P ts hs → AreOf Q ts hs
are_weaker P Q weaker [] hs all = tt
are_weaker P Q weaker (t ∷ ts) [] all = absurd all
are_weaker P Q weaker (t ∷ ts) (h ∷ hs) all = elim all [ inl p ↦ inl (weaker t h p.0, are_weaker P Q weaker ts hs p.1) | inr q ↦ inr (are_weaker P Q weaker (t ∷ ts) hs q) ]

-- ---- what holds of each

pub all_append : {X : Type 0} (P : X → Type 0) (xs ys : List X) → AllByRecursion P xs → AllByRecursion P ys → AllByRecursion P (xs ++ ys)
all_append P [] ys left right = right
all_append P (x ∷ xs) ys left right = (left.0, all_append P xs ys left.1 right)

pub all_weaker : {X : Type 0} (P Q : X → Type 0) → ((x : X) → P x → Q x) → (xs : List X) → AllByRecursion P xs → AllByRecursion Q xs
all_weaker P Q weaker [] all = tt
all_weaker P Q weaker (x ∷ xs) all = (weaker x all.0, all_weaker P Q weaker xs all.1)

pub all_picked : {X : Type 0} (P : X → Type 0) (picks : List Bool) (xs : List X) → AllByRecursion P xs → AllByRecursion P (picked picks xs)
all_picked P [] xs all = tt
all_picked P (pick ∷ picks) [] all = tt
all_picked P (true ∷ picks) (x ∷ xs) all = (all.0, all_picked P picks xs all.1)
all_picked P (false ∷ picks) (x ∷ xs) all = all_picked P picks xs all.1

pub all_left : {X : Type 0} (P : X → Type 0) (picks : List Bool) (xs : List X) → AllByRecursion P xs → AllByRecursion P (left picks xs)
all_left P [] xs all = all
all_left P (pick ∷ picks) [] all = tt
all_left P (true ∷ picks) (x ∷ xs) all = all_left P picks xs all.1
all_left P (false ∷ picks) (x ∷ xs) all = (all.0, all_left P picks xs all.1)

pub all_filter : {X : Type 0} (P : X → Type 0) (p : X → Bool) (xs : List X) → AllByRecursion P xs → AllByRecursion P (filter p xs)
all_filter P p [] all = tt
all_filter P p (x ∷ xs) all = either (AllByRecursion P) (p x) (x ∷ filter p xs) (filter p xs) (λ so. (all.0, all_filter P p xs all.1)) (λ not_so. all_filter P p xs all.1)

pub all_rest : {X : Type 0} (P : X → Type 0) (xs : List X) → AllByRecursion P xs → AllByRecursion P (rest xs)
all_rest P [] all = tt
all_rest P (x ∷ xs) all = all.1

-- a line that waits again
pub all_put : {X : Type 0} (P : X → Type 0) (k : ℕ) (x : X) (xs : List X) → AllByRecursion P xs → P x → AllByRecursion P (put_back k (x ∷ []) xs)
all_put P zero x xs all is = (is, all)
all_put P (suc k) x [] all is = (is, tt)
all_put P (suc k) x (y ∷ ys) all is = (all.0, all_put P k x ys all.1 is)

-- ---- how many

pub count_filter : {X : Type 0} (test p : X → Bool) (xs : List X) → count_by test (filter p xs) ≤ count_by test xs
count_filter test p [] = omega arith
count_filter test p (x ∷ xs) =
    let less : count_by test (filter p xs) ≤ count_by test xs = count_filter test p xs in
    let whole : count_by test (x ∷ xs) ≡ cond (test x) 1 0 + count_by test xs = sum_by-cons (λ y. cond (test y) 1 0) x xs in
    let kept : count_by test (x ∷ filter p xs) ≡ cond (test x) 1 0 + count_by test (filter p xs) = sum_by-cons (λ y. cond (test y) 1 0) x (filter p xs) in
    either (λ ys. count_by test ys ≤ count_by test (x ∷ xs)) (p x) (x ∷ filter p xs) (filter p xs) (λ so. omega arith) (λ not_so. omega arith)

pub count_push : {X : Type 0} (test : X → Bool) (xs : List X) (x : X) → count_by test (xs ++ x ∷ []) ≡ count_by test xs + cond (test x) 1 0
count_push test xs x = sum_by_push (λ y. cond (test y) 1 0) xs x

pub count_picked : {X : Type 0} (test : X → Bool) (picks : List Bool) (xs : List X) → count_by test (picked picks xs) + count_by test (left picks xs) ≡ count_by test xs
count_picked test [] xs = omega arith
count_picked test (pick ∷ picks) [] = omega arith
count_picked test (true ∷ picks) (x ∷ xs) =
    let rest = count_picked test picks xs in
    let whole : count_by test (x ∷ xs) ≡ cond {A = ℕ} (test x) 1 0 + count_by test xs = sum_by-cons (λ y. cond (test y) 1 0) x xs in
    let part : count_by test (x ∷ picked picks xs) ≡ cond {A = ℕ} (test x) 1 0 + count_by test (picked picks xs) = sum_by-cons (λ y. cond (test y) 1 0) x (picked picks xs) in
    omega (arith, rest, whole, part)
count_picked test (false ∷ picks) (x ∷ xs) =
    let rest = count_picked test picks xs in
    let whole : count_by test (x ∷ xs) ≡ cond {A = ℕ} (test x) 1 0 + count_by test xs = sum_by-cons (λ y. cond (test y) 1 0) x xs in
    let part : count_by test (x ∷ left picks xs) ≡ cond {A = ℕ} (test x) 1 0 + count_by test (left picks xs) = sum_by-cons (λ y. cond (test y) 1 0) x (left picks xs) in
    omega (arith, rest, whole, part)

pub count_rest : {X : Type 0} (test : X → Bool) (xs : List X) → count_by test (rest xs) ≤ count_by test xs
count_rest test [] = omega arith
count_rest test (x ∷ xs) = let whole = sum_by-cons (λ y. cond (test y) 1 0) x xs in omega (arith, whole)

pub count_less : {X : Type 0} (test more : X → Bool) → ((x : X) → test x ≡ true → more x ≡ true) → (xs : List X) → count_by test xs ≤ count_by more xs
count_less test more weaker [] = omega arith
count_less test more weaker (x ∷ xs) =
    let less = count_less test more weaker xs in
    let a = sum_by-cons (λ y. cond {A = ℕ} (test y) 1 0) x xs in
    let b = sum_by-cons (λ y. cond {A = ℕ} (more y) 1 0) x xs in
    elim (test x) as (λ t. test x ≡ t → count_by test (x ∷ xs) ≡ cond {A = ℕ} t 1 0 + count_by test xs → count_by test (x ∷ xs) ≤ count_by more (x ∷ xs)) [
      | true ↦ λ so e. (let one : cond {A = ℕ} (more x) 1 0 ≡ 1 = ap (λ t. cond {A = ℕ} t 1 0) (weaker x so) in omega (arith, less, b, e, one))
      | false ↦ λ so e. omega (arith, less, b, e)
    ] refl a

pub count_put : {X : Type 0} (test : X → Bool) (k : ℕ) (x : X) (xs : List X) → count_by test (put_back k (x ∷ []) xs) ≡ count_by test xs + cond (test x) 1 0
count_put test k x xs = sum_by-insert (λ y. cond (test y) 1 0) xs k x

pub count_map : {X Y : Type 0} (test : Y → Bool) (f : X → Y) (xs : List X) → count_by test (map f xs) ≡ count_by (λ x. test (f x)) xs
count_map test f [] = refl
count_map test f (x ∷ xs) =
    sum_by-cons (λ y. cond (test y) 1 0) (f x) (map f xs)
    ∙ ap (λ n. cond (test (f x)) 1 0 + n) (count_map test f xs)
    ∙ sym (sum_by-cons (λ y. cond (test (f y)) 1 0) x xs)

-- ---- flights

pub flight_is : (xs : List Pending) → length xs ≤ 256 → list_all (λ (x : Pending). not x.is_once) xs ≡ true → is_flight xs ≡ true
flight_is xs few all = grind (arith, nat_tests)

-- what must not be sent twice goes alone, so it is the first or nowhere
pub rest_twice : (a : Pending) (more : List Pending) → is_flight (a ∷ more) ≡ true → list_all (λ (x : Pending). not x.is_once) more ≡ true
rest_twice a [] is = refl
rest_twice a (x ∷ xs) is =
    let p = both_true (nat_le (length (a ∷ x ∷ xs)) 256) (length (a ∷ x ∷ xs) == 1 || list_all (λ y. not y.is_once) (a ∷ x ∷ xs)) is in
    let R : Bool = not a.is_once && list_all (λ (y : Pending). not y.is_once) (x ∷ xs) in
    let two : (length (a ∷ x ∷ xs) == 1) ≡ false = grind (arith, nat_tests) in
    (both_true (not a.is_once) (list_all (λ (y : Pending). not y.is_once) (x ∷ xs)) (subst (λ b. (b || R) ≡ true) two p.1)).1

pub flight_rest : (a : Pending) (more : List Pending) → is_flight (a ∷ more) ≡ true → is_flight more ≡ true
flight_rest a more is =
    let p = both_true (nat_le (length (a ∷ more)) 256) (length (a ∷ more) == 1 || list_all (λ x. not x.is_once) (a ∷ more)) is in
    let short : length more ≤ 255 = (let long = p.0 in grind (arith, nat_tests)) in
    flight_is more (omega (arith, short)) (rest_twice a more is)

pub alike_rest : (a : Pending) (more : List Pending) → is_alike (a ∷ more) ≡ true → is_alike more ≡ true
alike_rest a more is =
    elim a.is_query as (λ b. ((b && list_all (λ (x : Pending). x.is_query) more) || (not b && list_all (λ (x : Pending). not x.is_query) more)) ≡ true → (list_all (λ (x : Pending). x.is_query) more || list_all (λ (x : Pending). not x.is_query) more) ≡ true) [
      | true ↦ λ looks. left_of (list_all (λ (x : Pending). x.is_query) more) (list_all (λ (x : Pending). not x.is_query) more) looks
      | false ↦ λ orders. right_of (list_all (λ (x : Pending). x.is_query) more) (list_all (λ (x : Pending). not x.is_query) more) orders
    ] is
  where
    left_of : (x y : Bool) → (x || false) ≡ true → (x || y) ≡ true
    left_of true y h = refl
    left_of false y h = absurd (cc h)

    right_of : (x y : Bool) → y ≡ true → (x || y) ≡ true
    right_of true y h = refl
    right_of false y h = h
