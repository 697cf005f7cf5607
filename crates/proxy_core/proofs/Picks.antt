-- What the lines that fly are: a flight, queries alone or orders alone, with known numbers, and none before an older line of its connection.
use Rattle.std.proofs.Common.{◌≡◌, ◌≢◌, ℕ, ◌+◌, ◌-◌, ◌≤◌, ◌<◌, ◌==◌, ◌&&◌, ◌||◌, not, nat_lt, Bool, true, false, List, [], ◌∷◌, length, refl, sym, ap, subst, ◌∙◌, arith, cond}
use Rattle.std.specs.List.{list_all}
use Rattle.std.proofs.lemmas.Bool.Decides.{nat_tests}
use Rattle.proxy_core.specs.declared.choice.Kind.{Kind}
use Rattle.proxy_core.specs.declared.choice.Kind.TheVariants.{Any, Alone, Queries, Orders}
use Rattle.proxy_core.specs.Pending.{Pending}
use Rattle.proxy_core.specs.Machine.{Proxy, Round, first_round, is_alike, is_among, is_begun, is_flight, is_in_turn, is_none, is_ready, joins, kind_after, kind_of, kind_with, led, may_fill, may_go, may_join, picked, picks_of, room_after, second_round, stay_after, keeps_up, own_after}
use Rattle.proxy_core.proofs.Lists.{both_true, either}

pub both_of : (a b : Bool) → a ≡ true → b ≡ true → (a && b) ≡ true
both_of true b h k = k
both_of false b h k = absurd (cc h)

not_true : (b : Bool) → not b ≡ true → b ≡ false
not_true true h = absurd (cc h)
not_true false h = refl

-- a line that joins
pub record Joins (counted : Bool) (kind : Kind) (room : ℕ) (stay : List ℕ) (a : Pending) : Type 0 where
  pub room_left : 0 < room
  pub ready : is_ready counted a ≡ true
  pub alike : joins kind a ≡ true
  pub apart : not (is_among a.from stay) ≡ true

pub joins_of : (counted : Bool) (kind : Kind) (room : ℕ) (stay : List ℕ) (a : Pending) → may_join counted kind room stay a ≡ true → Joins counted kind room stay a
joins_of counted kind room stay a h =
    let p = both_true (nat_lt 0 room) (is_ready counted a && (joins kind a && not (is_among a.from stay))) h in
    let q = both_true (is_ready counted a) (joins kind a && not (is_among a.from stay)) p.1 in
    let s = both_true (joins kind a) (not (is_among a.from stay)) q.1 in
    let some = p.0 in
    record { room_left = grind (arith, nat_tests); ready = q.0; alike = s.0; apart = s.1 }

-- ---- the first round

pub led_length : (counted : Bool) (kind : Kind) (room : ℕ) (seen : List ℕ) (xs : List Pending) → length (first_round counted kind room seen xs).picks ≡ length xs
led_length counted kind room seen [] = refl
led_length counted kind room seen (a ∷ more) =
    let j : Bool = may_join counted kind room seen a in
    let same = led_length counted (kind_after j kind a) (room_after j room) (a.from ∷ seen) more in
    omega (arith, same)

pub led_room : (counted : Bool) (kind : Kind) (room : ℕ) (seen : List ℕ) (xs : List Pending) → (first_round counted kind room seen xs).room + length (picked (first_round counted kind room seen xs).picks xs) ≡ room
led_room counted kind room seen [] = omega arith
led_room counted kind room seen (a ∷ more) =
    elim (may_join counted kind room seen a) as (λ b. may_join counted kind room seen a ≡ b → (first_round counted (kind_after b kind a) (room_after b room) (a.from ∷ seen) more).room + length (picked (b ∷ (first_round counted (kind_after b kind a) (room_after b room) (a.from ∷ seen) more).picks) (a ∷ more)) ≡ room) [
      | true ↦ λ so. (
          let rest = led_room counted (kind_with kind a) (room - 1) (a.from ∷ seen) more in
          let some = (joins_of counted kind room seen a so).room_left in
          omega (arith, rest, some))
      | false ↦ λ no. led_room counted kind room (a.from ∷ seen) more
    ] refl

-- each picked line passes a test that those pass that join
led_all : (counted : Bool) (test : Pending → Bool) → ((kind : Kind) (room : ℕ) (seen : List ℕ) (a : Pending) → Joins counted kind room seen a → test a ≡ true)
    → (kind : Kind) (room : ℕ) (seen : List ℕ) (xs : List Pending) → list_all test (picked (first_round counted kind room seen xs).picks xs) ≡ true
led_all counted test passes kind room seen [] = refl
led_all counted test passes kind room seen (a ∷ more) =
    elim (may_join counted kind room seen a) as (λ b. may_join counted kind room seen a ≡ b → list_all test (picked (b ∷ (first_round counted (kind_after b kind a) (room_after b room) (a.from ∷ seen) more).picks) (a ∷ more)) ≡ true) [
      | true ↦ λ so. both_of (test a) (list_all test (picked (first_round counted (kind_with kind a) (room - 1) (a.from ∷ seen) more).picks more)) (passes kind room seen a (joins_of counted kind room seen a so)) (led_all counted test passes (kind_with kind a) (room - 1) (a.from ∷ seen) more)
      | false ↦ λ no. led_all counted test passes kind room (a.from ∷ seen) more
    ] refl

-- ---- kinds

pub kept_kind : (kind : Kind) (a : Pending) → is_begun kind ≡ true → kind_with kind a ≡ kind
kept_kind Any a begun = absurd (cc begun)
kept_kind Alone a begun = refl
kept_kind Queries a begun = refl
kept_kind Orders a begun = refl

after_kind : (goes : Bool) (kind : Kind) (a : Pending) → is_begun kind ≡ true → kind_after goes kind a ≡ kind
after_kind true kind a begun = kept_kind kind a begun
after_kind false kind a begun = refl

pub led_kind : (counted : Bool) (kind : Kind) (room : ℕ) (seen : List ℕ) (xs : List Pending) → is_begun kind ≡ true → (first_round counted kind room seen xs).kind ≡ kind
led_kind counted kind room seen [] begun = refl
led_kind counted kind room seen (a ∷ more) begun =
    let j : Bool = may_join counted kind room seen a in
    let same = after_kind j kind a begun in
    ap (λ k. (first_round counted k (room_after j room) (a.from ∷ seen) more).kind) same ∙ led_kind counted kind (room_after j room) (a.from ∷ seen) more begun

pub begun_of : (a : Pending) → is_begun (kind_of a) ≡ true
begun_of a = either (λ k. is_begun k ≡ true) a.is_once Alone (cond a.is_query Queries Orders) (λ once. refl) (λ twice. either (λ k. is_begun k ≡ true) a.is_query Queries Orders (λ query. refl) (λ order. refl))

-- a line of the kind
abbrev pub is_of : Kind → Pending → Bool
is_of Any a = false
is_of Alone a = a.is_once
is_of Queries a = not a.is_once && a.is_query
is_of Orders a = not a.is_once && not a.is_query

of_itself : (a : Pending) → is_of (kind_of a) a ≡ true
of_itself a =
    elim a.is_once as (λ b. a.is_once ≡ b → is_of (cond b Alone (cond a.is_query Queries Orders)) a ≡ true) [
      | true ↦ λ once. once
      | false ↦ λ twice. elim a.is_query as (λ q. a.is_query ≡ q → is_of (cond q Queries Orders) a ≡ true) [
        | true ↦ λ query. both_of (not a.is_once) a.is_query (ap not twice) query
        | false ↦ λ order. both_of (not a.is_once) (not a.is_query) (ap not twice) (ap not order)
      ] refl
    ] refl

of_joins : (kind : Kind) (a : Pending) → is_begun kind ≡ true → joins kind a ≡ true → is_of kind a ≡ true
of_joins Any a begun j = absurd (cc begun)
of_joins Alone a begun j = absurd (cc j)
of_joins Queries a begun j = j
of_joins Orders a begun j = j

-- all that a begun kind picks are of it
begun_all : (counted : Bool) (kind : Kind) (room : ℕ) (seen : List ℕ) (xs : List Pending) → is_begun kind ≡ true → list_all (is_of kind) (picked (first_round counted kind room seen xs).picks xs) ≡ true
begun_all counted kind room seen [] begun = refl
begun_all counted kind room seen (a ∷ more) begun =
    elim (may_join counted kind room seen a) as (λ b. may_join counted kind room seen a ≡ b → list_all (is_of kind) (picked (b ∷ (first_round counted (kind_after b kind a) (room_after b room) (a.from ∷ seen) more).picks) (a ∷ more)) ≡ true) [
      | true ↦ λ so.
          both_of (is_of kind a) (list_all (is_of kind) (picked (first_round counted (kind_with kind a) (room - 1) (a.from ∷ seen) more).picks more)) (of_joins kind a begun (joins_of counted kind room seen a so).alike)
          (subst (λ k. list_all (is_of kind) (picked (first_round counted k (room - 1) (a.from ∷ seen) more).picks more) ≡ true) (sym (kept_kind kind a begun)) (begun_all counted kind (room - 1) (a.from ∷ seen) more begun))
      | false ↦ λ no. begun_all counted kind room (a.from ∷ seen) more begun
    ] refl

-- all that the first round picks are of the kind that it ends with
led_alike : (counted : Bool) (room : ℕ) (seen : List ℕ) (xs : List Pending) → list_all (is_of (first_round counted Any room seen xs).kind) (picked (first_round counted Any room seen xs).picks xs) ≡ true
led_alike counted room seen [] = refl
led_alike counted room seen (a ∷ more) =
    elim (may_join counted Any room seen a) as (λ b. list_all (is_of (first_round counted (kind_after b Any a) (room_after b room) (a.from ∷ seen) more).kind) (picked (b ∷ (first_round counted (kind_after b Any a) (room_after b room) (a.from ∷ seen) more).picks) (a ∷ more)) ≡ true) [
      | true ↦ (
          let F : Round = first_round counted (kind_of a) (room - 1) (a.from ∷ seen) more in
          let same : F.kind ≡ kind_of a = led_kind counted (kind_of a) (room - 1) (a.from ∷ seen) more (begun_of a) in
          subst (λ k. list_all (is_of k) (a ∷ picked F.picks more) ≡ true) (sym same) (both_of (is_of (kind_of a) a) (list_all (is_of (kind_of a)) (picked F.picks more)) (of_itself a) (begun_all counted (kind_of a) (room - 1) (a.from ∷ seen) more (begun_of a))))
      | false ↦ led_alike counted room (a.from ∷ seen) more
    ]

-- a line that must not be sent twice joins no flight
none_alone : (counted : Bool) (room : ℕ) (stay : List ℕ) (a : Pending) → may_join counted Alone room stay a ≡ false
none_alone counted room stay a = elim (nat_lt 0 room) as (λ x. (x && (is_ready counted a && (false && not (is_among a.from stay)))) ≡ false) [ true ↦ never (is_ready counted a) | false ↦ refl ]
  where
    never : (b : Bool) → (b && false) ≡ false
    never true = refl
    never false = refl

begun_alone : (counted : Bool) (room : ℕ) (seen : List ℕ) (xs : List Pending) → picked (first_round counted Alone room seen xs).picks xs ≡ []
begun_alone counted room seen [] = refl
begun_alone counted room seen (a ∷ more) =
    elim (may_join counted Alone room seen a) as (λ b. may_join counted Alone room seen a ≡ b → picked (b ∷ (first_round counted (kind_after b Alone a) (room_after b room) (a.from ∷ seen) more).picks) (a ∷ more) ≡ []) [
      | true ↦ λ so. (let no = none_alone counted room seen a in absurd (cc (so, no)))
      | false ↦ λ no. begun_alone counted room (a.from ∷ seen) more
    ] refl

led_alone : (counted : Bool) (room : ℕ) (seen : List ℕ) (xs : List Pending) → (first_round counted Any room seen xs).kind ≡ Alone → length (picked (first_round counted Any room seen xs).picks xs) ≤ 1
led_alone counted room seen [] alone = omega arith
led_alone counted room seen (a ∷ more) alone =
    elim (may_join counted Any room seen a) as (λ b. (first_round counted (kind_after b Any a) (room_after b room) (a.from ∷ seen) more).kind ≡ Alone → length (picked (b ∷ (first_round counted (kind_after b Any a) (room_after b room) (a.from ∷ seen) more).picks) (a ∷ more)) ≤ 1) [
      | true ↦ λ is. (
          let kind : kind_of a ≡ Alone = sym (led_kind counted (kind_of a) (room - 1) (a.from ∷ seen) more (begun_of a)) ∙ is in
          let none : picked (first_round counted (kind_of a) (room - 1) (a.from ∷ seen) more).picks more ≡ [] = ap (λ k. picked (first_round counted k (room - 1) (a.from ∷ seen) more).picks more) kind ∙ begun_alone counted (room - 1) (a.from ∷ seen) more in
          let one : length (a ∷ picked (first_round counted (kind_of a) (room - 1) (a.from ∷ seen) more).picks more) ≡ 1 = ap (λ l. length (a ∷ l)) none in
          omega (arith, one))
      | false ↦ λ is. led_alone counted room (a.from ∷ seen) more is
    ] alone

-- nothing is picked as long as no kind is begun
led_none : (counted : Bool) (room : ℕ) (seen : List ℕ) (xs : List Pending) → length (picked (first_round counted Any room seen xs).picks xs) ≡ 0 → (first_round counted Any room seen xs).kind ≡ Any
led_none counted room seen [] none = refl
led_none counted room seen (a ∷ more) none =
    elim (may_join counted Any room seen a) as (λ b. length (picked (b ∷ (first_round counted (kind_after b Any a) (room_after b room) (a.from ∷ seen) more).picks) (a ∷ more)) ≡ 0 → (first_round counted (kind_after b Any a) (room_after b room) (a.from ∷ seen) more).kind ≡ Any) [
      | true ↦ λ is. absurd (omega (arith, is))
      | false ↦ λ is. led_none counted room (a.from ∷ seen) more is
    ] none

pub led_long : (counted : Bool) (w : List Pending) → length (led counted w).picks ≡ length w
led_long counted w = led_length counted Any 256 [] w

-- ---- the second round

-- it adds nothing of no kind, and nothing to a line that flies alone
second_none : (counted together : Bool) (kind : Kind) (room : ℕ) (stay own : List ℕ) (picks : List Bool) (xs : List Pending) → ((room : ℕ) (stay own : List ℕ) (a : Pending) → (is_begun kind && (may_join counted kind room stay a && keeps_up together own a)) ≡ false)
    → picked (second_round counted together kind room stay own picks xs) xs ≡ picked picks xs
second_none counted together kind room stay own [] xs never = refl
second_none counted together kind room stay own (p ∷ ps) [] never = refl
second_none counted together kind room stay own (true ∷ ps) (a ∷ more) never = ap (λ l. a ∷ l) (second_none counted together kind room stay (own_after true a own) ps more never)
second_none counted together kind room stay own (false ∷ ps) (a ∷ more) never =
    let j : Bool = is_begun kind && (may_join counted kind room stay a && keeps_up together own a) in
    elim j as (λ b. j ≡ b → picked (b ∷ second_round counted together kind (room_after b room) (stay_after b a stay) (own_after b a own) ps more) (a ∷ more) ≡ picked ps more) [
      | true ↦ λ so. (let no = never room stay own a in absurd (cc (so, no)))
      | false ↦ λ no. second_none counted together kind room (a.from ∷ stay) own ps more never
    ] refl

second_few : (counted together : Bool) (kind : Kind) (room : ℕ) (stay own : List ℕ) (picks : List Bool) (xs : List Pending) → length (picked (second_round counted together kind room stay own picks xs) xs) ≤ length (picked picks xs) + room
second_few counted together kind room stay own [] xs = omega arith
second_few counted together kind room stay own (p ∷ ps) [] = omega arith
second_few counted together kind room stay own (true ∷ ps) (a ∷ more) = (let few = second_few counted together kind room stay (own_after true a own) ps more in omega (arith, few))
second_few counted together kind room stay own (false ∷ ps) (a ∷ more) =
    let j : Bool = is_begun kind && (may_join counted kind room stay a && keeps_up together own a) in
    elim j as (λ b. j ≡ b → length (picked (b ∷ second_round counted together kind (room_after b room) (stay_after b a stay) (own_after b a own) ps more) (a ∷ more)) ≤ length (picked ps more) + room) [
      | true ↦ λ so. (
          let few = second_few counted together kind (room - 1) stay (own_after true a own) ps more in
          let some = (joins_of counted kind room stay a (both_true (may_join counted kind room stay a) (keeps_up together own a) (both_true (is_begun kind) (may_join counted kind room stay a && keeps_up together own a) so).1).0).room_left in
          omega (arith, few, some))
      | false ↦ λ no. second_few counted together kind room (a.from ∷ stay) own ps more
    ] refl

pub second_more : (counted together : Bool) (kind : Kind) (room : ℕ) (stay own : List ℕ) (picks : List Bool) (xs : List Pending) → length (picked picks xs) ≤ length (picked (second_round counted together kind room stay own picks xs) xs)
second_more counted together kind room stay own [] xs = omega arith
second_more counted together kind room stay own (p ∷ ps) [] = omega arith
second_more counted together kind room stay own (true ∷ ps) (a ∷ more) = (let less = second_more counted together kind room stay (own_after true a own) ps more in omega (arith, less))
second_more counted together kind room stay own (false ∷ ps) (a ∷ more) =
    let j : Bool = is_begun kind && (may_join counted kind room stay a && keeps_up together own a) in
    elim j as (λ b. length (picked ps more) ≤ length (picked (b ∷ second_round counted together kind (room_after b room) (stay_after b a stay) (own_after b a own) ps more) (a ∷ more))) [
      | true ↦ (let less = second_more counted together kind (room - 1) stay (own_after true a own) ps more in omega (arith, less))
      | false ↦ second_more counted together kind room (a.from ∷ stay) own ps more
    ]

second_all : (counted together : Bool) (kind : Kind) (test : Pending → Bool) → ((a : Pending) → is_begun kind ≡ true → is_ready counted a ≡ true → joins kind a ≡ true → test a ≡ true)
    → (room : ℕ) (stay own : List ℕ) (picks : List Bool) (xs : List Pending) → list_all test (picked picks xs) ≡ true → list_all test (picked (second_round counted together kind room stay own picks xs) xs) ≡ true
second_all counted together kind test passes room stay own [] xs all = refl
second_all counted together kind test passes room stay own (p ∷ ps) [] all = refl
second_all counted together kind test passes room stay own (true ∷ ps) (a ∷ more) all =
    let q = both_true (test a) (list_all test (picked ps more)) all in
    both_of (test a) (list_all test (picked (second_round counted together kind room stay (own_after true a own) ps more) more)) q.0 (second_all counted together kind test passes room stay (own_after true a own) ps more q.1)
second_all counted together kind test passes room stay own (false ∷ ps) (a ∷ more) all =
    let j : Bool = is_begun kind && (may_join counted kind room stay a && keeps_up together own a) in
    elim j as (λ b. j ≡ b → list_all test (picked (b ∷ second_round counted together kind (room_after b room) (stay_after b a stay) (own_after b a own) ps more) (a ∷ more)) ≡ true) [
      | true ↦ λ so. (
          let q = both_true (is_begun kind) (may_join counted kind room stay a && keeps_up together own a) so in
          let h = joins_of counted kind room stay a (both_true (may_join counted kind room stay a) (keeps_up together own a) q.1).0 in
          both_of (test a) (list_all test (picked (second_round counted together kind (room - 1) stay (own_after true a own) ps more) more)) (passes a q.0 h.ready h.alike) (second_all counted together kind test passes (room - 1) stay (own_after true a own) ps more all))
      | false ↦ λ no. second_all counted together kind test passes room (a.from ∷ stay) own ps more all
    ] refl

-- the connections of the one list are among those of the other
abbrev pub AreIn : List ℕ → List ℕ → Type 0
AreIn stay seen = (c : ℕ) → is_among c stay ≡ true → is_among c seen ≡ true

pub in_more : (d : ℕ) (stay seen : List ℕ) → AreIn stay seen → AreIn (d ∷ stay) (d ∷ seen)
in_more d stay seen less c is = elim (d == c) as (λ b. (b || is_among c stay) ≡ true → (b || is_among c seen) ≡ true) [ true ↦ λ t. refl | false ↦ λ t. less c t ] is

in_past : (d : ℕ) (stay seen : List ℕ) → AreIn stay seen → AreIn stay (d ∷ seen)
in_past d stay seen less c is = elim (d == c) as (λ b. (b || is_among c seen) ≡ true) [ true ↦ refl | false ↦ less c is ]

in_after : (goes : Bool) (a : Pending) (stay seen : List ℕ) → AreIn stay seen → AreIn (stay_after goes a stay) (a.from ∷ seen)
in_after true a stay seen less = in_past a.from stay seen less
in_after false a stay seen less = in_more a.from stay seen less

apart_in : (c : ℕ) (stay seen : List ℕ) → AreIn stay seen → not (is_among c seen) ≡ true → not (is_among c stay) ≡ true
apart_in c stay seen less out =
    elim (is_among c stay) as (λ b. is_among c stay ≡ b → not b ≡ true) [
      | true ↦ λ is. (let in_seen = less c is in let no = not_true (is_among c seen) out in absurd (cc (in_seen, no)))
      | false ↦ λ no. refl
    ] refl

second_turn : (counted together : Bool) (kind k : Kind) (room m : ℕ) (stay seen own : List ℕ) (xs : List Pending) → AreIn stay seen
    → is_in_turn stay (second_round counted together k m stay own (first_round counted kind room seen xs).picks xs) xs ≡ true
second_turn counted together kind k room m stay seen own [] less = refl
second_turn counted together kind k room m stay seen own (a ∷ more) less =
    let lead : Bool = may_join counted kind room seen a in
    let j : Bool = may_fill counted together k m stay own lead a in
    let later : List Bool = (first_round counted (kind_after lead kind a) (room_after lead room) (a.from ∷ seen) more).picks in
    elim j as (λ b. j ≡ b → is_in_turn stay (b ∷ second_round counted together k (room_after (not lead && b) m) (stay_after b a stay) (own_after b a own) later more) (a ∷ more) ≡ true) [
      | true ↦ λ so.
          both_of (not (is_among a.from stay)) (is_in_turn stay (second_round counted together k (room_after (not lead && true) m) stay (own_after true a own) later more) more) (free lead refl so)
          (second_turn counted together (kind_after lead kind a) k (room_after lead room) (room_after (not lead && true) m) stay (a.from ∷ seen) (own_after true a own) more (in_after true a stay seen less))
      | false ↦ λ no. second_turn counted together (kind_after lead kind a) k (room_after lead room) (room_after (not lead && false) m) (a.from ∷ stay) (a.from ∷ seen) own more (in_after false a stay seen less)
    ] refl
  where
    free : (b : Bool) → may_join counted kind room seen a ≡ b → may_fill counted together k m stay own b a ≡ true → not (is_among a.from stay) ≡ true
    free true is so = apart_in a.from stay seen less (joins_of counted kind room seen a is).apart
    free false is so = (joins_of counted k m stay a (both_true (may_join counted k m stay a) (keeps_up together own a) (both_true (is_begun k) (may_join counted k m stay a && keeps_up together own a) so).1).0).apart

-- ---- the flight

all_weaker_test : (test more : Pending → Bool) → ((a : Pending) → test a ≡ true → more a ≡ true) → (xs : List Pending) → list_all test xs ≡ true → list_all more xs ≡ true
all_weaker_test test more weaker [] all = refl
all_weaker_test test more weaker (x ∷ xs) all = (let q = both_true (test x) (list_all test xs) all in both_of (more x) (list_all more xs) (weaker x q.0) (all_weaker_test test more weaker xs q.1))

-- lines of one kind are a flight, and alike
flight_of : (kind : Kind) (xs : List Pending) → length xs ≤ 256 → list_all (is_of kind) xs ≡ true → (kind ≡ Alone → length xs ≤ 1) → (is_flight xs ≡ true) × (is_alike xs ≡ true)
flight_of Any [] few all one = (refl, refl)
flight_of Any (x ∷ xs) few all one = absurd (cc all)
flight_of Alone [] few all one = (refl, refl)
flight_of Alone (x ∷ []) few all one = (refl, elim x.is_query as (λ b. ((b && true) || (not b && true)) ≡ true) [ true ↦ refl | false ↦ refl ])
flight_of Alone (x ∷ y ∷ xs) few all one = (let long = one refl in absurd (omega (arith, long)))
flight_of Queries xs few all one =
    let twice : list_all (λ (a : Pending). not a.is_once) xs ≡ true = all_weaker_test (is_of Queries) (λ (a : Pending). not a.is_once) (λ a is. (both_true (not a.is_once) a.is_query is).0) xs all in
    let queries : list_all (λ (a : Pending). a.is_query) xs ≡ true = all_weaker_test (is_of Queries) (λ (a : Pending). a.is_query) (λ a is. (both_true (not a.is_once) a.is_query is).1) xs all in
    (grind (arith, nat_tests), ap (λ b. b || list_all (λ (a : Pending). not a.is_query) xs) queries)
flight_of Orders xs few all one =
    let twice : list_all (λ (a : Pending). not a.is_once) xs ≡ true = all_weaker_test (is_of Orders) (λ (a : Pending). not a.is_once) (λ a is. (both_true (not a.is_once) (not a.is_query) is).0) xs all in
    let orders : list_all (λ (a : Pending). not a.is_query) xs ≡ true = all_weaker_test (is_of Orders) (λ (a : Pending). not a.is_query) (λ a is. (both_true (not a.is_once) (not a.is_query) is).1) xs all in
    (grind (arith, nat_tests), or_right (list_all (λ (a : Pending). a.is_query) xs) (list_all (λ (a : Pending). not a.is_query) xs) orders)
  where
    or_right : (a b : Bool) → b ≡ true → (a || b) ≡ true
    or_right true b h = refl
    or_right false b h = h

picks_few : (counted together : Bool) (w : List Pending) → length (picked (picks_of counted together w) w) ≤ 256
picks_few counted together w =
    let F : Round = led counted w in
    let few = second_few counted together F.kind F.room [] [] F.picks w in
    let all = led_room counted Any 256 [] w in
    omega (arith, few, all)

picks_alone : (counted together : Bool) (w : List Pending) → (led counted w).kind ≡ Alone → length (picked (picks_of counted together w) w) ≤ 1
picks_alone counted together w alone =
    let F : Round = led counted w in
    let one = led_alone counted 256 [] w alone in
    let same : picked (picks_of counted together w) w ≡ picked F.picks w =
    ap (λ k. picked (second_round counted together k F.room [] [] F.picks w) w) alone ∙ second_none counted together Alone F.room [] [] F.picks w (λ room stay own a. ap (λ b. b && keeps_up together own a) (none_alone counted room stay a)) in
    let long : length (picked (picks_of counted together w) w) ≡ length (picked F.picks w) = ap length same in
    omega (arith, one, long)

-- the picks make a flight that may go
pub picks_may_go : (f : Proxy) → f.is_up ≡ true → f.flight ≡ [] → may_go (picks_of f.is_counted (not f.has_refusal) f.waiting) f ≡ true
picks_may_go f up none =
    let w : List Pending = f.waiting in
    let F : Round = led f.is_counted w in
    let ps : List Bool = picks_of f.is_counted (not f.has_refusal) w in
    let of_kind : list_all (is_of F.kind) (picked ps w) ≡ true = second_all f.is_counted (not f.has_refusal) F.kind (is_of F.kind) (λ a begun ready j. of_joins F.kind a begun j) F.room [] [] F.picks w (led_alike f.is_counted 256 [] w) in
    let ready : list_all (is_ready f.is_counted) (picked ps w) ≡ true = second_all f.is_counted (not f.has_refusal) F.kind (is_ready f.is_counted) (λ a begun is j. is) F.room [] [] F.picks w (led_all f.is_counted (is_ready f.is_counted) (λ kind room seen a h. h.ready) Any 256 [] w) in
    let both = flight_of F.kind (picked ps w) (picks_few f.is_counted (not f.has_refusal) w) of_kind (picks_alone f.is_counted (not f.has_refusal) w) in
    let turn : is_in_turn [] ps w ≡ true = second_turn f.is_counted (not f.has_refusal) Any F.kind 256 F.room [] [] [] w (λ c is. is) in
    both_of f.is_up (is_none f.flight && (is_flight (picked ps w) && (is_alike (picked ps w) && (is_in_turn [] ps w && list_all (is_ready f.is_counted) (picked ps w))))) up
    (both_of (is_none f.flight) (is_flight (picked ps w) && (is_alike (picked ps w) && (is_in_turn [] ps w && list_all (is_ready f.is_counted) (picked ps w)))) (ap is_none none)
    (both_of (is_flight (picked ps w)) (is_alike (picked ps w) && (is_in_turn [] ps w && list_all (is_ready f.is_counted) (picked ps w))) both.0
    (both_of (is_alike (picked ps w)) (is_in_turn [] ps w && list_all (is_ready f.is_counted) (picked ps w)) both.1
    (both_of (is_in_turn [] ps w) (list_all (is_ready f.is_counted) (picked ps w)) turn ready))))

-- ---- whether any line flies

empty_of : (xs : List Pending) → length xs ≡ 0 → xs ≡ []
empty_of [] none = refl
empty_of (x ∷ xs) none = absurd (omega (arith, none))

pub none_led : (counted together : Bool) (w : List Pending) → (led counted w).room ≡ 256 → picked (picks_of counted together w) w ≡ []
none_led counted together w full =
    let F : Round = led counted w in
    let all = led_room counted Any 256 [] w in
    let none : length (picked F.picks w) ≡ 0 = omega (arith, all, full) in
    let kind : F.kind ≡ Any = led_none counted 256 [] w none in
    ap (λ k. picked (second_round counted together k F.room [] [] F.picks w) w) kind ∙ second_none counted together Any F.room [] [] F.picks w (λ room stay own a. refl) ∙ empty_of (picked F.picks w) none

pub some_led : (counted together : Bool) (w : List Pending) → (led counted w).room ≢ 256 → 0 < length (picked (picks_of counted together w) w)
some_led counted together w used =
    let F : Round = led counted w in
    let all = led_room counted Any 256 [] w in
    let more = second_more counted together F.kind F.room [] [] F.picks w in
    let some : F.room ≡ 256 → ⊥ = used in
    positive F.room (length (picked F.picks w)) (length (picked (picks_of counted together w) w)) all more some
  where
    positive : (room n m : ℕ) → room + n ≡ 256 → n ≤ m → (room ≡ 256 → ⊥) → 0 < m
    positive room n m all more some = grind arith

-- each line has its pick
second_length : (counted together : Bool) (kind : Kind) (room : ℕ) (stay own : List ℕ) (picks : List Bool) (xs : List Pending) → length picks ≡ length xs → length (second_round counted together kind room stay own picks xs) ≡ length xs
second_length counted together kind room stay own [] [] same = refl
second_length counted together kind room stay own [] (a ∷ more) same = same
second_length counted together kind room stay own (p ∷ ps) [] same = refl
second_length counted together kind room stay own (p ∷ ps) (a ∷ more) same =
    let j : Bool = may_fill counted together kind room stay own p a in
    let rest = second_length counted together kind (room_after (not p && j) room) (stay_after j a stay) (own_after j a own) ps more (omega (arith, same)) in
    omega (arith, rest)

pub picks_length : (counted together : Bool) (w : List Pending) → length (picks_of counted together w) ≡ length w
picks_length counted together w = second_length counted together (led counted w).kind (led counted w).room [] [] (led counted w).picks w (led_length counted Any 256 [] w)
