-- The lane between two nodes, after each change of the links.
use Rattle.std.proofs.Common.{◌≡◌, ◌≢◌, ℕ, suc, ◌+◌, ◌<◌, ◌≤◌, Bool, true, false, ◌&&◌, ◌||◌, List, [], ◌∷◌, Option, Some, None, map, length, cond, eqb, refl, sym, ap, ◌∙◌, subst, arith, is_some, nat_lt, drop, slice_get}
use Rattle.std.proofs.lemmas.Bool.Decides.{nat_tests}
use Rattle.std.proofs.lemmas.List.{length-map}
use Rattle.std.proofs.lemmas.Option.{get_or_from_slice_get, slice_get-map, slice_get_within}
use Rattle.std.proofs.Math.ListN.{drop_of_length-le}
use Rattle.std.proofs.Math.Seq.{drop-cons}
use Rattle.std.specs.FinMap.{IsAntisymmetric}
use Rattle.std.specs.FinMap.Entries.{below_all, find, is_sorted, put}
use Rattle.std.specs.List.{AllByRecursion}
use Rattle.std.specs.Option.{option_map, option_or}
use Rattle.std.specs.Ordering.{eq_by_cmp, is_eq}
use Rattle.coord_types.specs.Table.{Table, empty, entries, from_sorted, get, has, insert, len, same_entries_table}
use Rattle.coord_types.proofs.Tables.{entries-from_sorted, get-change, get-empty, get-entries, get-from_sorted, get-insert, get-remove, len-from_sorted, same_table}
use Rattle.coord_link.specs.LaneMachine.{Lane}
use Rattle.coord_tables.specs.Links.{Lanes, Links, LinksRise, Turned, change_lanes, ends, joined, lane_at, lanes_in_order, link_entry, link_row, link_rows, links_of, parted, toward, with_lanes}
use Rattle.coord_tables.specs.Pairs.{pair_cmp, pair_cmp_total}
use Rattle.coord_tables.specs.declared.links.LinkRow.{LinkRow}
use Rattle.coord_tables.proofs.Cases.{both, by_test}
use Rattle.coord_tables.proofs.Found.{same_pair}
use Rattle.coord_tables.proofs.KeyedLists.{all_mapped, each_entry, find-below}
use Rattle.coord_tables.proofs.SortedEntries.{from_sorted-put, is_true, sorted-put}

pub antisymmetric : IsAntisymmetric pair_cmp
antisymmetric x y e = same_pair x y (ap is_eq e)

-- links are the same if they have the same at each pair
pub same_links : (s t : Links) → ((k : ℕ × ℕ) → get s k ≡ get t k) → s ≡ t
same_links s t same = same_table antisymmetric s t same

-- the link of x and y is that of a and b
pub same_ends : (a b x y : ℕ) → eq_by_cmp pair_cmp (ends x y) (ends a b) ≡ ((eqb x a && eqb y b) || (eqb x b && eqb y a))
same_ends a b x y = by_test (nat_lt x y) (λ t. nat_lt x y ≡ t → eq_by_cmp pair_cmp (cond t (x, y) (y, x)) (ends a b) ≡ ((eqb x a && eqb y b) || (eqb x b && eqb y a)))
    (λ _ up. by_test (nat_lt a b) (λ s. nat_lt a b ≡ s → eq_by_cmp pair_cmp (x, y) (cond s (a, b) (b, a)) ≡ ((eqb x a && eqb y b) || (eqb x b && eqb y a))) (λ _ rise. grind (arith, nat_tests)) (λ _ fall. grind (arith, nat_tests)) refl)
    (λ _ down. by_test (nat_lt a b) (λ s. nat_lt a b ≡ s → eq_by_cmp pair_cmp (y, x) (cond s (a, b) (b, a)) ≡ ((eqb x a && eqb y b) || (eqb x b && eqb y a))) (λ _ rise. grind (arith, nat_tests)) (λ _ fall. grind (arith, nat_tests)) refl) refl

module _ (t : Links) where
  -- each lane changed
  pub lane-changed : (f : ℕ × ℕ → Lane → Lane) (x y : ℕ) → lane_at (change_lanes f t) x y ≡ option_map (f (x, y)) (lane_at t x y)
  unfolding lane_at
  lane-changed f x y = by_test (nat_lt x y) (λ b. option_map (λ l. cond b l.forth l.back) (get (change_lanes f t) (cond b (x, y) (y, x))) ≡ option_map (f (x, y)) (option_map (λ l. cond b l.forth l.back) (get t (cond b (x, y) (y, x)))))
      (λ _. ap (option_map (λ l. l.forth)) (get-change pair_cmp both same_pair t (x, y)) ∙ forth (get t (x, y)))
      (λ _. ap (option_map (λ l. l.back)) (get-change pair_cmp both same_pair t (y, x)) ∙ back (get t (y, x)))
    where
      both : ℕ × ℕ → Lanes → Lanes
      both k l = record { forth = f k l.forth; back = f (k.1, k.0) l.back }

      forth : (o : Option Lanes) → option_map (λ l. l.forth) (option_map (both (x, y)) o) ≡ option_map (f (x, y)) (option_map (λ l. l.forth) o)
      forth None = refl
      forth (Some l) = refl

      back : (o : Option Lanes) → option_map (λ l. l.back) (option_map (both (y, x)) o) ≡ option_map (f (x, y)) (option_map (λ l. l.back) o)
      back None = refl
      back (Some l) = refl

  -- two nodes linked
  pub lane-joined : (a b : ℕ) (m : Lane) (x y : ℕ) → lane_at (joined t a b m) x y ≡ cond ((eqb x a && eqb y b) || (eqb x b && eqb y a)) (Some m) (lane_at t x y)
  unfolding lane_at
  lane-joined a b m x y = ap (option_map (toward x y)) (get-insert t (ends a b) (record { forth = m; back = m }) (ends x y)) ∙ out (eq_by_cmp pair_cmp (ends x y) (ends a b)) (get t (ends x y))
      ∙ ap (λ c. cond c (Some m) (lane_at t x y)) (same_ends a b x y)
    where
      one : (c : Bool) → cond c m m ≡ m
      one true = refl
      one false = refl

      out : (c : Bool) (o : Option Lanes) → option_map (toward x y) (cond c (Some (record { forth = m; back = m })) o) ≡ cond c (Some m) (option_map (toward x y) o)
      out true o = ap Some (one (nat_lt x y))
      out false o = refl

  -- two nodes no more linked
  pub lane-parted : (a b x y : ℕ) → lane_at (parted t a b) x y ≡ cond ((eqb x a && eqb y b) || (eqb x b && eqb y a)) None (lane_at t x y)
  unfolding lane_at
  lane-parted a b x y = ap (option_map (toward x y)) (get-remove t (ends a b) (ends x y)) ∙ out (eq_by_cmp pair_cmp (ends x y) (ends a b)) (get t (ends x y))
      ∙ ap (λ c. cond c None (lane_at t x y)) (same_ends a b x y)
    where
      out : (c : Bool) (o : Option Lanes) → option_map (toward x y) (cond c None o) ≡ cond c None (option_map (toward x y) o)
      out true o = refl
      out false o = refl

  there : (g : Lanes → Lane) (o : Option Lanes) → is_some (option_map g o) ≡ is_some o
  there g None = refl
  there g (Some l) = refl

  -- a lane is there where its link is
  pub lane-linked : (x y : ℕ) → is_some (lane_at t x y) ≡ has t (ends x y)
  unfolding lane_at
  lane-linked x y = there (toward x y) (get t (ends x y))

  -- each lane has its way back
  pub lane-mirrored : (x y : ℕ) → is_some (lane_at t x y) ≡ is_some (lane_at t y x)
  lane-mirrored x y = grind (arith, lane-linked, by_test)

  module _ (turned : Turned t) where
    -- no lane goes from a node to itself
    pub lane-apart : (x : ℕ) → is_some (lane_at t x x) ≡ false
    lane-apart x = grind (arith, lane-linked, by_test)

-- ---- lanes in order

-- the lanes of one link
lanes-two : (lanes : Table pair_cmp_total Lane) (a b : ℕ) (l : Lanes) → a < b → (x y : ℕ) →
    get (insert (insert lanes (a, b) l.forth) (b, a) l.back) (x, y) ≡ cond (eq_by_cmp pair_cmp (ends x y) (a, b)) (Some (toward x y l)) (get lanes (x, y))
lanes-two lanes a b l less x y =
    get-insert (insert lanes (a, b) l.forth) (b, a) l.back (x, y) ∙ ap (cond (eq_by_cmp pair_cmp (x, y) (b, a)) (Some l.back)) (get-insert lanes (a, b) l.forth (x, y))
    ∙ by_test (nat_lt x y) (λ c. nat_lt x y ≡ c → cond (eq_by_cmp pair_cmp (x, y) (b, a)) (Some l.back) (cond (eq_by_cmp pair_cmp (x, y) (a, b)) (Some l.forth) (get lanes (x, y)))
    ≡ cond (eq_by_cmp pair_cmp (cond c (x, y) (y, x)) (a, b)) (Some (cond c l.forth l.back)) (get lanes (x, y)))
    (λ _ up. let other : eq_by_cmp pair_cmp (x, y) (b, a) ≡ false = by_test (eq_by_cmp pair_cmp (x, y) (b, a)) (λ t. t ≡ false) (λ tied. absurd (grind (arith, nat_tests, tied, up, less))) (λ _. refl) in
    ap (λ t. cond t (Some l.back) (cond (eq_by_cmp pair_cmp (x, y) (a, b)) (Some l.forth) (get lanes (x, y)))) other)
    (λ _ isnt. let other : eq_by_cmp pair_cmp (x, y) (a, b) ≡ false = by_test (eq_by_cmp pair_cmp (x, y) (a, b)) (λ t. t ≡ false) (λ tied. absurd (grind (arith, nat_tests, tied, isnt, less))) (λ _. refl) in
    let same : eq_by_cmp pair_cmp (x, y) (b, a) ≡ eq_by_cmp pair_cmp (y, x) (a, b) = grind (arith, nat_tests) in
    ap (λ t. cond (eq_by_cmp pair_cmp (x, y) (b, a)) (Some l.back) (cond t (Some l.forth) (get lanes (x, y)))) other ∙ ap (λ t. cond t (Some l.back) (get lanes (x, y))) same) refl

-- which lane is found among those of links
with-found : (es : List ((ℕ × ℕ) × Lanes)) (lanes : Table pair_cmp_total Lane) → AllByRecursion (λ e. e.0.0 < e.0.1) es → is_sorted pair_cmp es ≡ true → (x y : ℕ) →
    get (with_lanes lanes es) (x, y) ≡ option_or (option_map (toward x y) (find pair_cmp (ends x y) es)) (get lanes (x, y))
with-found [] lanes turned sorted x y = refl
with-found (e ∷ es) lanes turned sorted x y =
    let parts = both (below_all pair_cmp e.0 es) (is_sorted pair_cmp es) sorted in
    with-found es (insert (insert lanes e.0 e.1.forth) (e.0.1, e.0.0) e.1.back) turned.1 parts.1 x y
    ∙ ap (option_or (option_map (toward x y) (find pair_cmp (ends x y) es))) (lanes-two lanes e.0.0 e.0.1 e.1 turned.0 x y)
    ∙ by_test (eq_by_cmp pair_cmp (ends x y) e.0) (λ t. option_or (option_map (toward x y) (find pair_cmp (ends x y) es)) (cond t (Some (toward x y e.1)) (get lanes (x, y)))
    ≡ option_or (option_map (toward x y) (cond t (Some e.1) (find pair_cmp (ends x y) es))) (get lanes (x, y)))
    (λ tied. let none : find pair_cmp (ends x y) es ≡ None = ap (λ q. find pair_cmp q es) (same_pair (ends x y) e.0 tied) ∙ find-below pair_cmp_total same_pair e.0 es parts.0 in
    ap (λ o. option_or (option_map (toward x y) o) (Some (toward x y e.1))) none) (λ _. refl)

module _ (t : Links) where
  sorted_entries : is_sorted pair_cmp (entries t) ≡ true
  sorted_entries = is_true _ t.sorted

  -- every entry is turned
  turned_entries : Turned t → AllByRecursion (λ e. e.0.0 < e.0.1) (entries t)
  turned_entries turned = each_entry pair_cmp_total same_pair (λ e. e.0.0 < e.0.1) (entries t) sorted_entries (λ k l is. turned k.0 k.1 (ap is_some (get-entries t k ∙ is)))

  -- the lanes in order are in order
  pub in_order-sorted : is_sorted pair_cmp (lanes_in_order t) ≡ true
  in_order-sorted = is_true _ (with_lanes empty (entries t)).sorted

  -- the lane between two nodes is the one found at them among the lanes in order
  pub in_order-found : Turned t → (x y : ℕ) → find pair_cmp (x, y) (lanes_in_order t) ≡ lane_at t x y
  unfolding lane_at
  in_order-found turned x y = sym (get-entries (with_lanes empty (entries t)) (x, y)) ∙ with-found (entries t) empty (turned_entries turned) sorted_entries x y
      ∙ ap (option_or (option_map (toward x y) (find pair_cmp (ends x y) (entries t)))) (get-empty pair_cmp_total (x, y))
      ∙ none (option_map (toward x y) (find pair_cmp (ends x y) (entries t))) ∙ ap (option_map (toward x y)) (sym (get-entries t (ends x y)))
    where
      none : (o : Option Lane) → option_or o None ≡ o
      none None = refl
      none (Some l) = refl

-- ---- lanes put in order, link by link

drop_here : {X : Type 0} (i : ℕ) (xs : List X) (x : X) → slice_get xs i ≡ Some x → drop i xs ≡ x ∷ drop (suc i) xs
drop_here i xs x here = drop-cons xs i x (slice_get_within xs i x here) ∙ ap (λ z. z ∷ drop (suc i) xs) (get_or_from_slice_get xs i x x here)

-- the two lanes of the next link are put among those before
pub lanes_step : (rows : List LinkRow) (i : ℕ) (before after : List ((ℕ × ℕ) × Lane)) (r : LinkRow) (all : Table pair_cmp_total Lane) → is_sorted pair_cmp before ≡ true → slice_get rows i ≡ Some r →
    after ≡ put pair_cmp (r.b, r.a) r.back (put pair_cmp (r.a, r.b) r.forth before) → with_lanes (from_sorted before) (drop i (map link_entry rows)) ≡ all →
    (is_sorted pair_cmp after ≡ true) × (with_lanes (from_sorted after) (drop (i + 1) (map link_entry rows)) ≡ all)
lanes_step rows i before after r all sorted here made so_far =
    let one = put pair_cmp (r.a, r.b) r.forth before in
    let sorted_one : is_sorted pair_cmp one ≡ true = sorted-put pair_cmp_total before (r.a, r.b) r.forth sorted in
    let next : drop i (map link_entry rows) ≡ link_entry r ∷ drop (suc i) (map link_entry rows) = drop_here i (map link_entry rows) (link_entry r) (slice_get-map link_entry rows i ∙ ap (option_map link_entry) here) in
    let grown : from_sorted {o = pair_cmp_total} after ≡ insert (insert (from_sorted before) (r.a, r.b) r.forth) (r.b, r.a) r.back =
    ap from_sorted made ∙ from_sorted-put pair_cmp_total one (r.b, r.a) r.back sorted_one ∙ ap (λ m. insert m (r.b, r.a) r.back) (from_sorted-put pair_cmp_total before (r.a, r.b) r.forth sorted) in
    let more : i + 1 ≡ suc i = omega arith in (
      ap (is_sorted pair_cmp) made ∙ sorted-put pair_cmp_total one (r.b, r.a) r.back sorted_one,
      ap (λ n. with_lanes (from_sorted after) (drop n (map link_entry rows))) more ∙ ap (λ m. with_lanes m (drop (suc i) (map link_entry rows))) grown ∙ ap (with_lanes (from_sorted before)) (sym next) ∙ so_far,
    )

-- after the last link stand all lanes
pub lanes_done : (rows : List LinkRow) (n : ℕ) (lanes : List ((ℕ × ℕ) × Lane)) → LinksRise rows → is_sorted pair_cmp lanes ≡ true → length rows ≤ n →
    with_lanes (from_sorted lanes) (drop n (map link_entry rows)) ≡ with_lanes empty (map link_entry rows) → lanes ≡ lanes_in_order (links_of rows)
lanes_done rows n lanes rise sorted past all = grind (arith, entries-from_sorted, drop_of_length-le, length-map)

-- ---- rows

there_and_back : (rows : List LinkRow) → map link_row (map link_entry rows) ≡ rows
there_and_back [] = refl
there_and_back (r ∷ rows) = ap (λ l. r ∷ l) (there_and_back rows)

back_and_there : (es : List ((ℕ × ℕ) × Lanes)) → map link_entry (map link_row es) ≡ es
back_and_there [] = refl
back_and_there (e ∷ es) = ap (λ l. e ∷ l) (back_and_there es)

-- rows that rise come back
pub rows_come_back : (rows : List LinkRow) → LinksRise rows → link_rows (links_of rows) ≡ rows
rows_come_back rows is = ap (map link_row) (entries-from_sorted pair_cmp_total (map link_entry rows) is.rise) ∙ there_and_back rows

-- rows distinguish links
pub rows_distinguish_links : (s t : Links) → link_rows s ≡ link_rows t → s ≡ t
rows_distinguish_links s t same = same_entries_table s t (sym (back_and_there (entries s)) ∙ ap (map link_entry) same ∙ back_and_there (entries t))

-- the rows of links rise
pub links_rise : (t : Links) → Turned t → LinksRise (link_rows t)
links_rise t turned = grind (arith, all_mapped, turned_entries, back_and_there, sorted_entries)

-- each link of rows is turned
pub turned_of : (rows : List LinkRow) → LinksRise rows → Turned (links_of rows)
turned_of rows is a b there = in_rows rows is.turned (find pair_cmp (a, b) (map link_entry rows)) refl (sym (ap is_some (get-from_sorted pair_cmp_total (map link_entry rows) (a, b) is.rise)) ∙ there)
  where
    in_rows : (rs : List LinkRow) → AllByRecursion (λ r. r.a < r.b) rs → (o : Option Lanes) → find pair_cmp (a, b) (map link_entry rs) ≡ o → is_some o ≡ true → a < b
    in_rows [] all o is some = absurd (let none : is_some o ≡ false = ap is_some (sym is) in cc)
    in_rows (r ∷ rs) all o is some = by_test (eq_by_cmp pair_cmp (a, b) (r.a, r.b)) (λ t. cond t (Some (link_entry r).1) (find pair_cmp (a, b) (map link_entry rs)) ≡ o → a < b)
        (λ tied _. let same = same_pair (a, b) (r.a, r.b) tied in let less = all.0 in let one : a ≡ r.a = ap (λ q. q.0) same in let two : b ≡ r.b = ap (λ q. q.1) same in omega (arith, one, two, less))
        (λ _ later. in_rows rs all.1 o later some) is

-- as many links as rows
pub links-len : (rows : List LinkRow) → LinksRise rows → len (links_of rows) ≡ length rows
links-len rows is = len-from_sorted pair_cmp_total (map link_entry rows) is.rise ∙ length-map rows link_entry

-- ---- predicates on each lane

-- a predicate on both lanes of each link holds for each lane
pub each_lane : (P : Lane → Type 0) (t : Links) → ((k : ℕ × ℕ) (l : Lanes) → get t k ≡ Some l → P l.forth × P l.back) → (x y : ℕ) (l : Lane) → lane_at t x y ≡ Some l → P l
unfolding lane_at
each_lane P t each x y l is = of_link (get t (ends x y)) refl is
  where
    either : (c : Bool) (k : Lanes) → P k.forth × P k.back → P (cond c k.forth k.back)
    either true k both = both.0
    either false k both = both.1

    of_link : (o : Option Lanes) → get t (ends x y) ≡ o → option_map (toward x y) o ≡ Some l → P l
    of_link None there e = cc
    of_link (Some k) there e = let value : toward x y k ≡ l = cc in subst P value (either (nat_lt x y) k (each (ends x y) k there))

-- each link has two lanes
pub lanes_at_key : (t : Links) → Turned t → (k : ℕ × ℕ) (l : Lanes) → get t k ≡ Some l → (lane_at t k.0 k.1 ≡ Some l.forth) × (lane_at t k.1 k.0 ≡ Some l.back)
unfolding lane_at
lanes_at_key t turned k l there = grind arith

-- both lanes of a link are of one incarnation
pub one_inc : (t : Links) → ((k : ℕ × ℕ) (l : Lanes) → get t k ≡ Some l → l.forth.inc ≡ l.back.inc) → (x y : ℕ) (l k : Lane) → lane_at t x y ≡ Some l → lane_at t y x ≡ Some k → l.inc ≡ k.inc
unfolding lane_at
one_inc t each x y l k out far = grind (arith, by_test, there)

-- ---- changes of lanes

module _ (f : ℕ × ℕ → Lane → Lane) where
  -- both lanes of a link
  abbrev pub both_changed : ℕ × ℕ → Lanes → Lanes
  both_changed k l = record { forth = f k l.forth; back = f (k.1, k.0) l.back }

  pub get-changed : (t : Links) (k : ℕ × ℕ) → get (change_lanes f t) k ≡ option_map (both_changed k) (get t k)
  get-changed t k = get-change pair_cmp both_changed same_pair t k

  -- the links stay
  pub has-changed : (t : Links) (k : ℕ × ℕ) → has (change_lanes f t) k ≡ has t k
  has-changed t k = grind (arith, get-changed)

-- one change after another
pub changed_twice : (f g : ℕ × ℕ → Lane → Lane) (t : Links) → change_lanes g (change_lanes f t) ≡ change_lanes (λ k l. g k (f k l)) t
changed_twice f g t = grind (arith, same_links, get-changed)

-- the same change of each lane
pub changed_alike : (f g : ℕ × ℕ → Lane → Lane) (t : Links) → ((k : ℕ × ℕ) (l : Lane) → f k l ≡ g k l) → change_lanes f t ≡ change_lanes g t
changed_alike f g t same = grind (arith, same_links, get-changed)

-- no change
pub changed_nowhere : (f : ℕ × ℕ → Lane → Lane) (t : Links) → ((k : ℕ × ℕ) (l : Lane) → f k l ≡ l) → change_lanes f t ≡ t
changed_nowhere f t none = grind (arith, same_links, get-changed)

module _ (t : Links) (turned : Turned t) (x y : ℕ) (f : Lane → Lane) where
  abbrev at_lane : ℕ × ℕ → Lane → Lane
  at_lane k m = cond (eqb k.0 x && eqb k.1 y) (f m) m

  -- the lane from x to y is at these ends
  is_lane_at : (k : ℕ × ℕ) (m : Lane) → lane_at t k.0 k.1 ≡ Some m → (eqb k.0 x && eqb k.1 y) ≡ true → lane_at t x y ≡ Some m
  is_lane_at k m there is = grind arith

  -- a lane that isn't there is not changed
  pub lane_none_is : lane_at t x y ≡ None → t ≡ change_lanes at_lane t
  lane_none_is none = same_links _ _ (λ k. stays k (get t k) refl ∙ sym (get-changed at_lane t k))
    where
      other : (k : ℕ × ℕ) (m : Lane) → lane_at t k.0 k.1 ≡ Some m → m ≡ at_lane k m
      other k m there = by_test (eqb k.0 x && eqb k.1 y) (λ c. (eqb k.0 x && eqb k.1 y) ≡ c → m ≡ cond c (f m) m) (λ _ is. let some = is_lane_at k m there is in cc) (λ _ _. refl) refl

      stays : (k : ℕ × ℕ) (o : Option Lanes) → get t k ≡ o → o ≡ option_map (both_changed at_lane k) o
      stays k None is = refl
      stays k (Some l) is = let two = lanes_at_key t turned k l is in λ i. Some (record { forth = other k l.forth two.0 i; back = other (k.1, k.0) l.back two.1 i })

-- ---- each link stays turned

-- the lesser end of two nodes comes first
pub ends_less : (x y : ℕ) → x ≢ y → (ends x y).0 < (ends x y).1
ends_less x y apart = by_test (nat_lt x y) (λ c. nat_lt x y ≡ c → (cond {A = ℕ × ℕ} c (x, y) (y, x)).0 < (cond {A = ℕ × ℕ} c (x, y) (y, x)).1) (λ _ up. grind (arith, nat_tests, up)) (λ _ down. grind (arith, nat_tests, down, apart)) refl

pub turned-changed : (f : ℕ × ℕ → Lane → Lane) (t : Links) → Turned t → Turned (change_lanes f t)
turned-changed f t turned a b there = turned a b (sym (has-changed f t (a, b)) ∙ there)

pub turned-joined : (t : Links) (x y : ℕ) (m : Lane) → x ≢ y → Turned t → Turned (joined t x y m)
turned-joined t x y m h1 h2 = grind (arith, there, by_test, same_pair, ends_less, get-insert)

pub turned-parted : (t : Links) (x y : ℕ) → Turned t → Turned (parted t x y)
turned-parted t x y h1 = grind (arith, there, get-remove)

pub turned-empty : Turned empty
turned-empty a b there = let none = get-empty {X = Lanes} pair_cmp_total (a, b) in absurd (let no = ap is_some (sym none) ∙ there in cc no)
