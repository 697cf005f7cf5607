-- What a node sends makes its new fronts, in the order of its neighbours.
use Rattle.std.proofs.Common.{◌≡◌, ℕ, Bool, true, false, ◌&&◌, ◌||◌, List, [], ◌∷◌, ◌++◌, Option, Some, None, cond, eqb, refl, sym, ap, ◌∙◌, subst, arith, append_assoc, Ordering, Less, Equal, Greater, ◌+◌, map, nat_eq, nat_lt}
use Rattle.std.specs.List.{AllByRecursion, list_any}
use Rattle.std.specs.Ordering.{eq_by_cmp, is_eq, is_lt, nat_cmp, ordering_reverse, ordering_then}
use Rattle.std.specs.FinMap.Entries.{below_all, find, is_sorted}
use Rattle.std.proofs.lemmas.Bool.Decides.{nat_tests}
use Rattle.std.specs.List.Sorted.{IsStrictlySortedBy}
use Rattle.coord_tables.specs.Links.{Turned}
use Rattle.coord_tables.proofs.LinkLanes.{in_order-found, in_order-sorted}
use Rattle.coord_types.specs.declared.outputs.Output.{Output}
use Rattle.coord_link.specs.LaneMachine.{Lane, sent, took}
use Rattle.coord_world.specs.Facade.{Links, all_sent, lane_at, lanes_in_order, pair_cmp, pair_cmp_total, sent_by}
use Rattle.coord_tables.proofs.Cases.{both, by_test}
use Rattle.coord_tables.proofs.Found.{same_pair}
use Rattle.coord_tables.proofs.KeyedLists.{each_entry, find-below}
use Rattle.coord_tables.proofs.SortedEntries.{is_less}
use Rattle.coord_types.proofs.Sets.{contains-items, items-sorted}
use Rattle.coord_types.proofs.Tables.{option_map}
use Rattle.coord_types.specs.declared.messages.Msg.{Msg}
use Rattle.coord_node.specs.Facade.{Transition, added, sends_of}
use Rattle.coord_world.specs.code.Fronts.{front_sent, fronts_sent}
use Rattle.coord_world.proofs.release.LaneFronts.{sent_none}
use Rattle.coord_types.specs.NodeSet as set

-- ---- the new fronts of lanes are those at some keys in ascending order, if the lanes at all other keys have none

-- keys in ascending order
abbrev pub Rising : List (ℕ × ℕ) → Type 0
Rising [] = Unit {0}
Rising (k ∷ ks) = AllByRecursion (λ q. pair_cmp k q ≡ Less) ks × Rising ks

abbrev pub among : ℕ × ℕ → List (ℕ × ℕ) → Bool
among q [] = false
among q (k ∷ ks) = (eqb q.0 k.0 && eqb q.1 k.1) || among q ks

same_number : (m n : ℕ) → is_eq (nat_cmp m n) ≡ eqb m n
same_number m n = grind (arith, nat_tests)

then_equal : (r s : Ordering) → is_eq (ordering_then r s) ≡ (is_eq r && is_eq s)
then_equal r s = grind (arith, nat_tests)

same_key : (p q : ℕ × ℕ) → eq_by_cmp pair_cmp p q ≡ (eqb p.0 q.0 && eqb p.1 q.1)
same_key p q = then_equal (nat_cmp p.0 q.0) (nat_cmp p.1 q.1) ∙ (λ i. same_number p.0 q.0 i && same_number p.1 q.1 i)

turned : (p q : ℕ × ℕ) → pair_cmp p q ≡ Less → pair_cmp q p ≡ Greater
turned p q less = pair_cmp_total.antisymm q p ∙ ap ordering_reverse less

-- a lesser key is another one, and so is a greater one
apart : (p q : ℕ × ℕ) → pair_cmp p q ≡ Less → (eqb p.0 q.0 && eqb p.1 q.1) ≡ false
apart p q less = sym (same_key p q) ∙ ap is_eq less

apart_back : (p q : ℕ × ℕ) → pair_cmp p q ≡ Less → (eqb q.0 p.0 && eqb q.1 p.1) ≡ false
apart_back p q less = sym (same_key q p) ∙ ap is_eq (turned p q less)

apart_all : (q : ℕ × ℕ) (ks : List (ℕ × ℕ)) → AllByRecursion (λ k. pair_cmp q k ≡ Less) ks → among q ks ≡ false
apart_all q [] above = refl
apart_all q (k ∷ ks) above = λ i. apart q k above.0 i || apart_all q ks above.1 i

above_all : (p k : ℕ × ℕ) (ks : List (ℕ × ℕ)) → pair_cmp p k ≡ Less → AllByRecursion (λ q. pair_cmp k q ≡ Less) ks → AllByRecursion (λ q. pair_cmp p q ≡ Less) ks
above_all p k [] less above = tt
above_all p k (q ∷ ks) less above = (pair_cmp_total.trans p k q less above.0, above_all p k ks less above.1)

below_less : (p k : ℕ × ℕ) (es : List ((ℕ × ℕ) × Lane)) → pair_cmp p k ≡ Less → below_all pair_cmp k es ≡ true → below_all pair_cmp p es ≡ true
below_less p k [] less below = refl
below_less p k (e ∷ es) less below =
    let parts = both (is_lt (pair_cmp k e.0)) (below_all pair_cmp k es) below in
    λ i. is_lt (pair_cmp_total.trans p k e.0 less (is_less _ parts.0) i) && below_less p k es less parts.1 i

module _ (before : Links) where
  -- the new front of a lane that is now this one
  abbrev pub front_now : ℕ × ℕ → Option Lane → List Output
  front_now k None = []
  front_now k (Some l) = sent_by (lane_at before k.0 k.1) k l l.queue

  -- those of the lanes at these keys
  abbrev pub fronts_at : List ((ℕ × ℕ) × Lane) → List (ℕ × ℕ) → List Output
  fronts_at es [] = []
  fronts_at es (k ∷ ks) = front_now k (find pair_cmp k es) ++ fronts_at es ks

  -- no other lane has a new front
  abbrev pub Quiet : List (ℕ × ℕ) → List ((ℕ × ℕ) × Lane) → Type 0
  Quiet ks es = AllByRecursion (λ e. among e.0 ks ≡ false → sent_by (lane_at before e.0.0 e.0.1) e.0 e.1 e.1.queue ≡ []) es

  none_at : (ks : List (ℕ × ℕ)) → fronts_at [] ks ≡ []
  none_at [] = refl
  none_at (k ∷ ks) = none_at ks

  -- keys above an entry are found after it
  skip : (e : (ℕ × ℕ) × Lane) (es : List ((ℕ × ℕ) × Lane)) (ks : List (ℕ × ℕ)) → AllByRecursion (λ q. pair_cmp e.0 q ≡ Less) ks → fronts_at (e ∷ es) ks ≡ fronts_at es ks
  skip e es [] above = refl
  skip e es (q ∷ ks) above = grind (arith, nat_tests, above, ap (λ r. cond (is_eq r) (Some e.1) (find pair_cmp q es)) (turned e.0 q above.0), skip e es ks above.1)

  -- a key below all entries may be left out
  quieter : (k : ℕ × ℕ) (ks : List (ℕ × ℕ)) (es : List ((ℕ × ℕ) × Lane)) → below_all pair_cmp k es ≡ true → Quiet (k ∷ ks) es → Quiet ks es
  quieter k ks [] below quiet = tt
  quieter k ks (e ∷ es) below quiet =
      let parts = both (is_lt (pair_cmp k e.0)) (below_all pair_cmp k es) below in
      (λ away. quiet.0 (λ i. apart_back k e.0 (is_less _ parts.0) i || away i), quieter k ks es parts.1 quiet.1)

  step : (e : (ℕ × ℕ) × Lane) (es : List ((ℕ × ℕ) × Lane)) → is_sorted pair_cmp (e ∷ es) ≡ true →
      ((ks : List (ℕ × ℕ)) → Rising ks → Quiet ks es → all_sent before es ≡ fronts_at es ks) →
      (ks : List (ℕ × ℕ)) → Rising ks → Quiet ks (e ∷ es) → all_sent before (e ∷ es) ≡ fronts_at (e ∷ es) ks
  step e es sorted later [] rising quiet = λ i. quiet.0 refl i ++ later [] tt quiet.1 i
  step e es sorted later (k ∷ ks) rising quiet =
      let parts = both (below_all pair_cmp e.0 es) (is_sorted pair_cmp es) sorted in
      elim (pair_cmp k e.0) as (λ r. pair_cmp k e.0 ≡ r → all_sent before (e ∷ es) ≡ fronts_at (e ∷ es) (k ∷ ks)) [
        | Less ↦ λ is.
            let below : below_all pair_cmp k (e ∷ es) ≡ true = λ i. is_lt (is i) && below_less k e.0 es is parts.0 i in
            step e es sorted later ks rising.1 (quieter k ks (e ∷ es) below quiet) ∙ ap (λ o. front_now k o ++ fronts_at (e ∷ es) ks) (sym (find-below pair_cmp_total same_pair k (e ∷ es) below))
        | Equal ↦ λ is.
            let same : k ≡ e.0 = same_pair k e.0 (ap is_eq is) in
            let here : find pair_cmp k (e ∷ es) ≡ Some e.1 = ap (λ r. cond (is_eq r) (Some e.1) (find pair_cmp k es)) is in
            let above = subst (λ p. AllByRecursion (λ q. pair_cmp p q ≡ Less) ks) same rising.0 in
            let below : below_all pair_cmp k es ≡ true = ap (λ p. below_all pair_cmp p es) same ∙ parts.0 in
            ap (λ l. front_now e.0 (Some e.1) ++ l) (later ks rising.1 (quieter k ks es below quiet.1) ∙ sym (skip e es ks above))
            ∙ ap (λ q. front_now q (Some e.1) ++ fronts_at (e ∷ es) ks) (sym same) ∙ ap (λ o. front_now k o ++ fronts_at (e ∷ es) ks) (sym here)
        | Greater ↦ λ is.
            let less : pair_cmp e.0 k ≡ Less = pair_cmp_total.antisymm e.0 k ∙ ap ordering_reverse is in
            let above : AllByRecursion (λ q. pair_cmp e.0 q ≡ Less) (k ∷ ks) = (less, above_all e.0 k ks less rising.0) in
            let rest : all_sent before es ≡ fronts_at (e ∷ es) (k ∷ ks) = later (k ∷ ks) rising quiet.1 ∙ sym (skip e es (k ∷ ks) above) in
            λ i. quiet.0 (apart_all e.0 (k ∷ ks) above) i ++ rest i
      ] refl

  gather : (es : List ((ℕ × ℕ) × Lane)) → is_sorted pair_cmp es ≡ true → (ks : List (ℕ × ℕ)) → Rising ks → Quiet ks es → all_sent before es ≡ fronts_at es ks
  gather [] sorted ks rising quiet = sym (none_at ks)
  gather (e ∷ es) sorted ks rising quiet = step e es sorted (gather es (both _ _ sorted).1) ks rising quiet

  -- the new fronts of the lanes at these keys, as they are in a table
  abbrev pub fronts_in : Links → List (ℕ × ℕ) → List Output
  fronts_in after [] = []
  fronts_in after (k ∷ ks) = front_now k (lane_at after k.0 k.1) ++ fronts_in after ks

  looked_up : (after : Links) → Turned after → (ks : List (ℕ × ℕ)) → fronts_at (lanes_in_order after) ks ≡ fronts_in after ks
  looked_up after turned [] = refl
  looked_up after turned (k ∷ ks) = λ i. front_now k (in_order-found after turned k.0 k.1 i) ++ looked_up after turned ks i

  pub fronts_join : (after : Links) (ks qs : List (ℕ × ℕ)) → fronts_in after (ks ++ qs) ≡ fronts_in after ks ++ fronts_in after qs
  fronts_join after [] qs = refl
  fronts_join after (k ∷ ks) qs = ap (λ l. front_now k (lane_at after k.0 k.1) ++ l) (fronts_join after ks qs) ∙ sym (append_assoc (front_now k (lane_at after k.0 k.1)) (fronts_in after ks) (fronts_in after qs))

  pub in_order : (after : Links) → Turned after → (ks : List (ℕ × ℕ)) → Rising ks →
      ((k : ℕ × ℕ) (l : Lane) → lane_at after k.0 k.1 ≡ Some l → among k ks ≡ false → sent_by (lane_at before k.0 k.1) k l l.queue ≡ []) → all_sent before (lanes_in_order after) ≡ fronts_in after ks
  in_order after turned_after ks rising quiet =
      gather (lanes_in_order after) (in_order-sorted after) ks rising
      (each_entry pair_cmp_total same_pair (λ e. among e.0 ks ≡ false → sent_by (lane_at before e.0.0 e.0.1) e.0 e.1 e.1.queue ≡ []) (lanes_in_order after) (in_order-sorted after) (λ k l is. quiet k l (sym (in_order-found after turned_after k.0 k.1) ∙ is)))
      ∙ looked_up after turned_after ks

-- ---- what a node sends

-- u's lanes to these
abbrev pub lanes_to : ℕ → List ℕ → List (ℕ × ℕ)
lanes_to u xs = map (λ x. (u, x)) xs

above_each : (u x : ℕ) (xs : List ℕ) → AllByRecursion (λ y. nat_cmp x y ≡ Less) xs → AllByRecursion (λ q. pair_cmp (u, x) q ≡ Less) (lanes_to u xs)
above_each u x [] above = tt
above_each u x (y ∷ ys) above = grind (arith, nat_tests, above, above.0, above_each u x ys above.1)

pub rising_to : (u : ℕ) (xs : List ℕ) → IsStrictlySortedBy nat_cmp xs → Rising (lanes_to u xs)
unfolding IsStrictlySortedBy
rising_to u [] sorted = tt
rising_to u (x ∷ xs) sorted = (above_each u x xs sorted.0, rising_to u xs sorted.1)

among_to : (u : ℕ) (xs : List ℕ) (x y : ℕ) → among (x, y) (lanes_to u xs) ≡ (eqb x u && list_any (λ z. nat_eq z y) xs)
among_to u [] x y = grind (arith, nat_tests)
among_to u (z ∷ zs) x y = grind (arith, nat_tests, among_to u zs x y)

-- a lane has no new front where its front stays
front_stays : (i b g h : ℕ) (q : List Msg) (k : ℕ × ℕ) → sent_by (Some (record { inc = i; base = b; got = g; queue = q })) k (record { inc = i; base = b; got = h; queue = q }) q ≡ []
front_stays i b g h q k = grind (arith, nat_tests)

abbrev pub Still : ℕ × ℕ → Option Lane → Option Lane → Type 0
Still k before after = (l : Lane) → after ≡ Some l → sent_by before k l l.queue ≡ []

pub still_same : (k : ℕ × ℕ) (o : Option Lane) → Still k o o
still_same k None l is = cc
still_same k (Some p) l is = let same : p ≡ l = cc in rw (sym same) (front_stays p.inc p.base p.got p.got p.queue k)

pub still_took : (k : ℕ × ℕ) (b : Bool) (o : Option Lane) → Still k o (option_map (λ l. cond b (took l) l) o)
still_took k b None l is = cc
still_took k true (Some p) l is = let same : took p ≡ l = cc in rw (sym same) (front_stays p.inc p.base p.got (p.got + 1) p.queue k)
still_took k false (Some p) l is = still_same k (Some p) l is

-- nothing is sent where nobody is among those whom a transition goes to
nothing_sent : (b : Bool) (ms : List Msg) (o : Option Lane) → cond b ms [] ≡ [] → option_map (λ l. cond b (sent ms l) l) o ≡ o
nothing_sent b ms None none = refl
nothing_sent true ms (Some l) none = ap (λ ns. Some (sent ns l)) none ∙ ap Some (sym (sent_none l))
nothing_sent false ms (Some l) none = refl

module _ (before after : Links) (u : ℕ) (d : Transition) (sends : (v : ℕ) → set.contains d.to v ≡ true → lane_at after u v ≡ option_map (sent (d.message ∷ [])) (lane_at before u v)) where
  front_of : (k : ℕ × ℕ) (o p : Option Lane) → lane_at before k.0 k.1 ≡ o → p ≡ option_map (sent (d.message ∷ [])) o → front_now before k p ≡ front_sent o k d.message
  front_of k o p was is = grind (arith, nat_tests, was, is)

  fronts_each : (xs : List ℕ) → ((v : ℕ) → list_any (λ z. nat_eq z v) xs ≡ true → set.contains d.to v ≡ true) → fronts_in before after (lanes_to u xs) ≡ fronts_sent before u (map (λ x. (x, d.message)) xs)
  fronts_each [] within = refl
  fronts_each (x ∷ xs) within =
      let here : set.contains d.to x ≡ true = within x (grind (arith, nat_tests)) in
      let first = front_of (u, x) (lane_at before u x) (lane_at after u x) refl (sends x here) in
      let rest = fronts_each xs (λ v is. within v (grind (arith, nat_tests, is))) in
      λ i. first i ++ rest i

  pub fronts_of_sends : fronts_in before after (lanes_to u (set.items d.to)) ≡ fronts_sent before u (sends_of d)
  fronts_of_sends = fronts_each (set.items d.to) (λ v is. contains-items d.to v ∙ is)

-- what one transition sends
pub sends_here : (u : ℕ) (d : Transition) (y : ℕ) (o : Option Lane) → set.contains d.to y ≡ true → option_map (λ l. cond (eqb u u) (sent (added d y) l) l) o ≡ option_map (sent (d.message ∷ [])) o
sends_here u d y o h1 = grind (arith, nat_tests, h1)

pub nothing_here : (u : ℕ) (d : Transition) (x y : ℕ) (o : Option Lane) → among (x, y) (lanes_to u (set.items d.to)) ≡ false → option_map (λ l. cond (eqb x u) (sent (added d y) l) l) o ≡ o
nothing_here u d x y o away = nothing_sent (eqb x u) (added d y) o (none (eqb x u) (set.contains d.to y) (ap (λ b. eqb x u && b) (contains-items d.to y) ∙ sym (among_to u (set.items d.to) x y) ∙ away))
  where
    none : (b t : Bool) → (b && t) ≡ false → cond b (cond t (d.message ∷ []) []) [] ≡ []
    none true true e = cc
    none true false e = refl
    none false t e = refl

all_join : (P : ℕ × ℕ → Type 0) (ks qs : List (ℕ × ℕ)) → AllByRecursion P ks → AllByRecursion P qs → AllByRecursion P (ks ++ qs)
all_join P [] qs one other = other
all_join P (k ∷ ks) qs one other = (one.0, all_join P ks qs one.1 other)

above_lanes : (u v x : ℕ) (ys : List ℕ) → nat_lt u v ≡ true → AllByRecursion (λ q. pair_cmp (u, x) q ≡ Less) (lanes_to v ys)
above_lanes u v x [] less = tt
above_lanes u v x (y ∷ ys) less = (grind (arith, nat_tests, less), above_lanes u v x ys less)

rising_both : (u v : ℕ) (xs ys : List ℕ) → nat_lt u v ≡ true → IsStrictlySortedBy nat_cmp xs → IsStrictlySortedBy nat_cmp ys → Rising (lanes_to u xs ++ lanes_to v ys)
unfolding IsStrictlySortedBy
rising_both u v [] ys less sorted also = rising_to v ys also
rising_both u v (x ∷ xs) ys less sorted also = (all_join (λ q. pair_cmp (u, x) q ≡ Less) (lanes_to u xs) (lanes_to v ys) (above_each u x xs sorted.0) (above_lanes u v x ys less), rising_both u v xs ys less sorted.1 also)

among_join : (k : ℕ × ℕ) (ks qs : List (ℕ × ℕ)) → among k (ks ++ qs) ≡ false → (among k ks ≡ false) × (among k qs ≡ false)
among_join k [] qs away = (refl, away)
among_join k (q ∷ ks) qs away = by_test (eqb k.0 q.0 && eqb k.1 q.1) (λ b. (b || among k (ks ++ qs)) ≡ false → ((b || among k ks) ≡ false) × (among k qs ≡ false)) (λ _ e. cc) (λ _ e. among_join k ks qs e) away

-- two nodes send, the lesser one first
pub two_fronts : (before after : Links) → Turned after → (u v : ℕ) (d e : Transition) → nat_lt u v ≡ true →
    ((y : ℕ) → set.contains d.to y ≡ true → lane_at after u y ≡ option_map (sent (d.message ∷ [])) (lane_at before u y)) →
    ((y : ℕ) → set.contains e.to y ≡ true → lane_at after v y ≡ option_map (sent (e.message ∷ [])) (lane_at before v y)) →
    ((k : ℕ × ℕ) → among k (lanes_to u (set.items d.to)) ≡ false → among k (lanes_to v (set.items e.to)) ≡ false → Still k (lane_at before k.0 k.1) (lane_at after k.0 k.1)) →
    fronts_sent before u (sends_of d) ++ fronts_sent before v (sends_of e) ≡ all_sent before (lanes_in_order after)
two_fronts before after turned u v d e less one other quiet =
    let ks = lanes_to u (set.items d.to) in
    let qs = lanes_to v (set.items e.to) in
    sym (in_order before after turned (ks ++ qs) (rising_both u v (set.items d.to) (set.items e.to) less (items-sorted d.to) (items-sorted e.to))
    (λ k l is away. let apart = among_join k ks qs away in quiet k apart.0 apart.1 l is)
    ∙ fronts_join before after ks qs ∙ (λ i. fronts_of_sends before after u d one i ++ fronts_of_sends before after v e other i))
