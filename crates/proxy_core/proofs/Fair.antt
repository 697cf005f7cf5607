-- Whose lines are in the next flight.
use Rattle.std.proofs.Common.{◌≡◌, ℕ, ◌+◌, ◌-◌, ◌≤◌, ◌<◌, ◌==◌, ◌&&◌, ◌||◌, not, nat_lt, Bool, true, false, List, [], ◌∷◌, Some, None, count_by, refl, sym, ap, subst, ◌∙◌, arith, cond}
use Rattle.std.proofs.lemmas.Bool.Decides.{nat_tests}
use Rattle.std.proofs.lemmas.List.Sums.{sum_by-cons}
use Rattle.proxy_core.specs.declared.choice.Kind.{Kind}
use Rattle.proxy_core.specs.declared.choice.Kind.TheVariants.{Any, Alone, Queries, Orders}
use Rattle.proxy_core.specs.Pending.{Pending, is_from}
use Rattle.proxy_core.specs.Machine.{Round, first_round, is_among, is_begun, is_ready, joins, kind_after, kind_of, led, may_join, picked, picks_of, room_after, second_round, stay_after, keeps_up, own_after}
use Rattle.proxy_core.specs.Fair.{FairShares, OldestFlies, first_from, first_of, oldest_of}
use Rattle.proxy_core.proofs.Picks.{AreIn, begun_of, both_of, in_more, joins_of, led_kind, led_room}

some_same : (x y : Pending) → Some x ≡ Some y → x ≡ y
some_same x y is = ap (λ o. elim o as (λ p. Pending) [ Some z ↦ z | None ↦ x ]) is

-- while nothing is picked, a line joins just if it may fly at all
joins_any : (counted : Bool) (room : ℕ) (seen : List ℕ) (a : Pending) → 0 < room → may_join counted Any room seen a ≡ (is_ready counted a && not (is_among a.from seen))
joins_any counted room seen a some =
    let room_left : nat_lt 0 room ≡ true = grind (arith, nat_tests) in
    ap (λ b. b && (is_ready counted a && not (is_among a.from seen))) room_left

-- the oldest line gives the kind
led_oldest : (counted : Bool) (room : ℕ) (seen : List ℕ) (xs : List Pending) (o : Pending) → 0 < room → oldest_of counted seen xs ≡ Some o → (first_round counted Any room seen xs).kind ≡ kind_of o
led_oldest counted room seen [] o some is = absurd (cc is)
led_oldest counted room seen (a ∷ more) o some is =
    let test : Bool = is_ready counted a && not (is_among a.from seen) in
    let same : may_join counted Any room seen a ≡ test = joins_any counted room seen a some in
    subst (λ b. (first_round counted (kind_after b Any a) (room_after b room) (a.from ∷ seen) more).kind ≡ kind_of o) (sym same)
    (elim test as (λ b. cond b (Some a) (oldest_of counted (a.from ∷ seen) more) ≡ Some o → (first_round counted (kind_after b Any a) (room_after b room) (a.from ∷ seen) more).kind ≡ kind_of o) [
      | true ↦ λ t. led_kind counted (kind_of a) (room - 1) (a.from ∷ seen) more (begun_of a) ∙ ap kind_of (some_same a o t)
      | false ↦ λ t. led_oldest counted room (a.from ∷ seen) more o some t
    ] is)

-- a line that may not fly at all joins no kind
never_joins : (counted : Bool) (kind : Kind) (room : ℕ) (seen stay : List ℕ) (a : Pending) → AreIn seen stay → (is_ready counted a && not (is_among a.from seen)) ≡ false → may_join counted kind room stay a ≡ false
never_joins counted kind room seen stay a less never =
    elim (may_join counted kind room stay a) as (λ b. may_join counted kind room stay a ≡ b → b ≡ false) [
      | true ↦ λ so. (
          let j = joins_of counted kind room stay a so in
          let out : not (is_among a.from seen) ≡ true = outside a.from j.apart in
          let is : (is_ready counted a && not (is_among a.from seen)) ≡ true = both_of (is_ready counted a) (not (is_among a.from seen)) j.ready out in
          sym is ∙ never)
      | false ↦ λ t. refl
    ] refl
  where
    outside : (c : ℕ) → not (is_among c stay) ≡ true → not (is_among c seen) ≡ true
    outside c out = elim (is_among c seen) as (λ b. is_among c seen ≡ b → not b ≡ true) [
      | true ↦ λ is. (let in_stay = less c is in absurd (cc (sym (ap not in_stay) ∙ out)))
      | false ↦ λ t. refl
    ] refl

-- and it is the first one that is picked
second_oldest : (counted together : Bool) (kind : Kind) (room m : ℕ) (seen stay own : List ℕ) (xs : List Pending) (o : Pending) → 0 < room → AreIn seen stay → oldest_of counted seen xs ≡ Some o
    → first_of (picked (second_round counted together kind m stay own (first_round counted Any room seen xs).picks xs) xs) ≡ Some o
second_oldest counted together kind room m seen stay own [] o some less is = absurd (cc is)
second_oldest counted together kind room m seen stay own (a ∷ more) o some less is =
    let test : Bool = is_ready counted a && not (is_among a.from seen) in
    let same : may_join counted Any room seen a ≡ test = joins_any counted room seen a some in
    subst (λ b. first_of (picked (second_round counted together kind m stay own (b ∷ (first_round counted (kind_after b Any a) (room_after b room) (a.from ∷ seen) more).picks) (a ∷ more)) (a ∷ more)) ≡ Some o) (sym same)
    (elim test as (λ b. test ≡ b → cond b (Some a) (oldest_of counted (a.from ∷ seen) more) ≡ Some o → first_of (picked (second_round counted together kind m stay own (b ∷ (first_round counted (kind_after b Any a) (room_after b room) (a.from ∷ seen) more).picks) (a ∷ more)) (a ∷ more)) ≡ Some o) [
      | true ↦ λ so t. t
      | false ↦ λ no t. (
          let later : List Bool = (first_round counted Any room (a.from ∷ seen) more).picks in
          let none : (is_begun kind && (may_join counted kind m stay a && keeps_up together own a)) ≡ false = ap (λ b. is_begun kind && (b && keeps_up together own a)) (never_joins counted kind m seen stay a less no) ∙ and_false (is_begun kind) in
          subst (λ b. first_of (picked (b ∷ second_round counted together kind (room_after b m) (stay_after b a stay) (own_after b a own) later more) (a ∷ more)) ≡ Some o) (sym none)
          (second_oldest counted together kind room m (a.from ∷ seen) (a.from ∷ stay) own more o some (in_more a.from seen stay less) t))
    ] refl is)
  where
    and_false : (b : Bool) → (b && false) ≡ false
    and_false true = refl
    and_false false = refl

pub oldest_flies : OldestFlies
oldest_flies counted together waiting o is = second_oldest counted together (led counted waiting).kind 256 (led counted waiting).room [] [] [] waiting o (omega arith) (λ c t. t) is

-- ---- shares

count_cons : (c : ℕ) (a : Pending) (xs : List Pending) → count_by (is_from c) (a ∷ xs) ≡ cond {A = ℕ} (is_from c a) 1 0 + count_by (is_from c) xs
count_cons c a xs = sum_by-cons (λ y. cond {A = ℕ} (is_from c y) 1 0) a xs

-- the first round picks at most one line of each connection, and none of those before
led_once : (counted : Bool) (kind : Kind) (room : ℕ) (seen : List ℕ) (xs : List Pending) (c : ℕ) → count_by (is_from c) (picked (first_round counted kind room seen xs).picks xs) ≤ cond {A = ℕ} (is_among c seen) 0 1
led_once counted kind room seen [] c = least (is_among c seen)
  where
    least : (b : Bool) → 0 ≤ cond {A = ℕ} b 0 1
    least true = omega arith
    least false = omega arith
led_once counted kind room seen (a ∷ more) c =
    let j : Bool = may_join counted kind room seen a in
    let rest = led_once counted (kind_after j kind a) (room_after j room) (a.from ∷ seen) more c in
    let later : List Pending = picked (first_round counted (kind_after j kind a) (room_after j room) (a.from ∷ seen) more).picks more in
    let none_if : count_by (is_from c) later ≤ cond {A = ℕ} ((a.from == c) || is_among c seen) 0 1 = rest in
    let head : count_by (is_from c) (picked (j ∷ (first_round counted (kind_after j kind a) (room_after j room) (a.from ∷ seen) more).picks) (a ∷ more)) ≤ cond {A = ℕ} (j && (a.from == c)) 1 0 + count_by (is_from c) later = counts j (first_round counted (kind_after j kind a) (room_after j room) (a.from ∷ seen) more).picks in
    shares j (a.from == c) (is_among c seen) (count_by (is_from c) later) (count_by (is_from c) (picked (j ∷ (first_round counted (kind_after j kind a) (room_after j room) (a.from ∷ seen) more).picks) (a ∷ more))) (apart j refl) none_if head
  where
    counts : (b : Bool) (ps : List Bool) → count_by (is_from c) (picked (b ∷ ps) (a ∷ more)) ≤ cond {A = ℕ} (b && (a.from == c)) 1 0 + count_by (is_from c) (picked ps more)
    counts true ps = (let whole = count_cons c a (picked ps more) in omega (arith, whole))
    counts false ps = omega arith

    apart : (b : Bool) → may_join counted kind room seen a ≡ b → (b && (a.from == c)) ≡ true → is_among c seen ≡ false
    apart true is here =
        let out = (joins_of counted kind room seen a is).apart in
        let same : a.from ≡ c = grind (arith, nat_tests) in
        not_true (is_among c seen) (subst (λ x. not (is_among x seen) ≡ true) same out)
      where
        not_true : (b : Bool) → not b ≡ true → b ≡ false
        not_true true h = absurd (cc h)
        not_true false h = refl
    apart false is here = absurd (cc here)

    shares : (j here seen : Bool) (later all : ℕ) → ((j && here) ≡ true → seen ≡ false) → later ≤ cond {A = ℕ} (here || seen) 0 1 → all ≤ cond {A = ℕ} (j && here) 1 0 + later → all ≤ cond {A = ℕ} seen 0 1
    shares true true true later all first few sum = absurd (cc (first refl))
    shares true true false later all first few sum = omega (arith, few, sum)
    shares true false true later all first few sum = omega (arith, few, sum)
    shares true false false later all first few sum = omega (arith, few, sum)
    shares false true true later all first few sum = omega (arith, few, sum)
    shares false true false later all first few sum = omega (arith, few, sum)
    shares false false true later all first few sum = omega (arith, few, sum)
    shares false false false later all first few sum = omega (arith, few, sum)

-- the kind that a round ends with is that of each line of it that may join
joins_now : (counted : Bool) (kind : Kind) (room : ℕ) (seen : List ℕ) (xs : List Pending) (a : Pending) → joins (first_round counted kind room seen xs).kind a ≡ true → joins kind a ≡ true
joins_now counted Any room seen xs a j = refl
joins_now counted Alone room seen xs a j = sym (ap (λ k. joins k a) (led_kind counted Alone room seen xs refl)) ∙ j
joins_now counted Queries room seen xs a j = sym (ap (λ k. joins k a) (led_kind counted Queries room seen xs refl)) ∙ j
joins_now counted Orders room seen xs a j = sym (ap (λ k. joins k a) (led_kind counted Orders room seen xs refl)) ∙ j

-- if a connection's first line could join and is not picked, the first round has filled the flight
led_full : (counted : Bool) (kind : Kind) (room : ℕ) (seen : List ℕ) (xs : List Pending) (c : ℕ) (a : Pending) → is_among c seen ≡ false → first_from c xs ≡ Some a → is_ready counted a ≡ true
    → joins (first_round counted kind room seen xs).kind a ≡ true → count_by (is_from c) (picked (first_round counted kind room seen xs).picks xs) ≡ 0 → (first_round counted kind room seen xs).room ≡ 0
led_full counted kind room seen [] c a out is ready j none = absurd (cc is)
led_full counted kind room seen (x ∷ more) c a out is ready j none =
    elim (x.from == c) as (λ b. (x.from == c) ≡ b → cond b (Some x) (first_from c more) ≡ Some a → (first_round counted kind room seen (x ∷ more)).room ≡ 0) [
      | true ↦ λ here t. (
          let same : x ≡ a = some_same x a t in
          let from : x.from ≡ c = grind (arith, nat_tests) in
          let fits : (is_ready counted x && (joins kind x && not (is_among x.from seen))) ≡ true =
          both_of (is_ready counted x) (joins kind x && not (is_among x.from seen)) (ap (is_ready counted) same ∙ ready)
          (both_of (joins kind x) (not (is_among x.from seen)) (ap (joins kind) same ∙ joins_now counted kind room seen (x ∷ more) a j) (ap (λ y. not (is_among y seen)) from ∙ ap not out)) in
          filled (nat_lt 0 room) refl fits here)
      | false ↦ λ other t. led_full counted (kind_after k kind x) (room_after k room) (x.from ∷ seen) more c a (ap (λ b. b || is_among c seen) other ∙ out) t ready j (rest_none k ps none)
    ] refl is
  where
    k : Bool
    k = may_join counted kind room seen x

    ps : List Bool
    ps = (first_round counted (kind_after k kind x) (room_after k room) (x.from ∷ seen) more).picks

    rest_none : (b : Bool) (qs : List Bool) → count_by (is_from c) (picked (b ∷ qs) (x ∷ more)) ≡ 0 → count_by (is_from c) (picked qs more) ≡ 0
    rest_none true qs zero = (let whole = count_cons c x (picked qs more) in omega (arith, zero, whole))
    rest_none false qs zero = zero

    filled : (b : Bool) → nat_lt 0 room ≡ b → (is_ready counted x && (joins kind x && not (is_among x.from seen))) ≡ true → (x.from == c) ≡ true → (first_round counted kind room seen (x ∷ more)).room ≡ 0
    filled true some fits here =
        let goes : may_join counted kind room seen x ≡ true = both_of (nat_lt 0 room) (is_ready counted x && (joins kind x && not (is_among x.from seen))) some fits in
        let picks : count_by (is_from c) (x ∷ picked ps more) ≡ 0 = sym (ap (λ b. count_by (is_from c) (picked (b ∷ ps) (x ∷ more))) goes) ∙ none in
        let one : cond {A = ℕ} (is_from c x) 1 0 ≡ 1 = ap (λ b. cond {A = ℕ} b 1 0) here in
        let whole = count_cons c x (picked ps more) in
        absurd (omega (arith, picks, one, whole))
    filled false full fits here =
        let zero : room ≡ 0 = grind (arith, nat_tests) in
        let all = led_room counted kind room seen (x ∷ more) in
        omega (arith, all, zero)

-- the second round drops none of the first one, and without room it adds none
second_count : (counted together : Bool) (kind : Kind) (room : ℕ) (stay own : List ℕ) (picks : List Bool) (xs : List Pending) (c : ℕ) → count_by (is_from c) (picked picks xs) ≤ count_by (is_from c) (picked (second_round counted together kind room stay own picks xs) xs)
second_count counted together kind room stay own [] xs c = omega arith
second_count counted together kind room stay own (p ∷ ps) [] c = omega arith
second_count counted together kind room stay own (true ∷ ps) (a ∷ more) c =
    let less = second_count counted together kind room stay (own_after true a own) ps more c in
    omega (arith, less, count_cons c a (picked ps more), count_cons c a (picked (second_round counted together kind room stay (own_after true a own) ps more) more))
second_count counted together kind room stay own (false ∷ ps) (a ∷ more) c =
    let j : Bool = is_begun kind && (may_join counted kind room stay a && keeps_up together own a) in
    elim j as (λ b. count_by (is_from c) (picked ps more) ≤ count_by (is_from c) (picked (b ∷ second_round counted together kind (room_after b room) (stay_after b a stay) (own_after b a own) ps more) (a ∷ more))) [
      | true ↦ (let less = second_count counted together kind (room - 1) stay (own_after true a own) ps more c in omega (arith, less, count_cons c a (picked (second_round counted together kind (room - 1) stay (own_after true a own) ps more) more)))
      | false ↦ second_count counted together kind room (a.from ∷ stay) own ps more c
    ]

second_zero : (counted together : Bool) (kind : Kind) (stay own : List ℕ) (picks : List Bool) (xs : List Pending) → picked (second_round counted together kind 0 stay own picks xs) xs ≡ picked picks xs
second_zero counted together kind stay own [] xs = refl
second_zero counted together kind stay own (p ∷ ps) [] = refl
second_zero counted together kind stay own (true ∷ ps) (a ∷ more) = ap (λ l. a ∷ l) (second_zero counted together kind stay (own_after true a own) ps more)
second_zero counted together kind stay own (false ∷ ps) (a ∷ more) =
    elim (is_begun kind) as (λ b. picked ((b && false) ∷ second_round counted together kind (room_after (b && false) 0) (stay_after (b && false) a stay) (own_after (b && false) a own) ps more) (a ∷ more) ≡ picked ps more) [
      | true ↦ second_zero counted together kind (a.from ∷ stay) own ps more
      | false ↦ second_zero counted together kind (a.from ∷ stay) own ps more
    ]

pub fair_shares : FairShares
fair_shares counted together waiting o a c oldest first ready j none d =
    let F : Round = led counted waiting in
    let kind : F.kind ≡ kind_of o = led_oldest counted 256 [] waiting o (omega arith) oldest in
    let less = second_count counted together F.kind F.room [] [] F.picks waiting c in
    let none_led : count_by (is_from c) (picked F.picks waiting) ≡ 0 = omega (arith, less, none) in
    let full : F.room ≡ 0 = led_full counted Any 256 [] waiting c a refl first ready (ap (λ k. joins k a) kind ∙ j) none_led in
    let same : picked (picks_of counted together waiting) waiting ≡ picked F.picks waiting = ap (λ m. picked (second_round counted together F.kind m [] [] F.picks waiting) waiting) full ∙ second_zero counted together F.kind [] [] F.picks waiting in
    let once = led_once counted Any 256 [] waiting d in
    let long : count_by (is_from d) (picked (picks_of counted together waiting) waiting) ≡ count_by (is_from d) (picked F.picks waiting) = ap (λ l. count_by (is_from d) l) same in
    omega (arith, once, long)
