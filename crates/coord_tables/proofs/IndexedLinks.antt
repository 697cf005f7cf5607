-- Links in ascending order with a table of their places: look-ups, and the invariant through each change.
use Rattle.std.proofs.Common.{◌≡◌, ℕ, zero, suc, ◌<◌, ◌≤◌, ◌-◌, Bool, true, false, ◌&&◌, not, List, [], ◌∷◌, ◌++◌, Option, Some, None, map, length, cond, eqb, refl, sym, ap, ◌∙◌, subst, arith, is_some, nat_lt, set, get_or, slice_get, slice_index, take, drop, replicate}
use Rattle.std.proofs.lemmas.Bool.Decides.{nat_tests}
use Rattle.std.proofs.lemmas.List.{drop-map, length-set, map-append, map-set, take-map}
use Rattle.std.proofs.lemmas.Option.{get_or_from_slice_get, slice_get-map, slice_get_within}
use Rattle.std.proofs.Math.Seq.{take-nil}
use Rattle.std.specs.FinMap.Entries.{below_all, find, is_sorted, put, where_key}
use Rattle.std.specs.List as list
use Rattle.std.specs.List.{AllByRecursion}
use Rattle.std.specs.Option.{option_map}
use Rattle.std.specs.Cmp.{eq_by_cmp_equiv}
use Rattle.std.specs.Ordering.{eq_by_cmp, is_lt}
use Rattle.coord_types.specs.StepRanges.{IsNode}
use Rattle.coord_types.specs.Table.{from_sorted, get, insert, remove}
use Rattle.coord_types.proofs.Tables.{get-change, get-from_sorted, get-insert}
use Rattle.coord_link.specs.LaneMachine.{Lane}
use Rattle.coord_tables.specs.Links.{AreIndexed, Lanes, Links, LinksRise, Turned, change_lane, ends, lane_at, link_entry, link_place, links_of, parted, row_with, toward}
use Rattle.coord_tables.specs.Pairs.{pair_cmp, pair_cmp_total}
use Rattle.coord_tables.specs.Place.{IsGapFor}
use Rattle.coord_tables.specs.Places.{HasKeyAt, IsIndexed, noted_place, pair_place}
use Rattle.coord_tables.specs.declared.links.LinkRow.{LinkRow}
use Rattle.coord_tables.proofs.Cases.{both, by_test}
use Rattle.coord_tables.proofs.Found.{same_pair}
use Rattle.coord_tables.proofs.IndexedEntries.{at_noted, is_put, nothing_noted, still_indexed}
use Rattle.coord_tables.proofs.KeyedLists.{not_tied}
use Rattle.coord_tables.proofs.LinkLanes.{lane_none_is, same_links, turned_of}
use Rattle.coord_tables.proofs.PutAtPlace.{put_between}
use Rattle.coord_tables.proofs.SortedEntries.{below_each, found, from_sorted-out, from_sorted-put, sorted-out, sorted-put}

-- ---- look-ups

-- a row's lanes
abbrev pub lanes_in : LinkRow → Lanes
lanes_in r = record { forth = r.forth; back = r.back }

module _ (rows : List LinkRow) (places : List ℕ) (are : AreIndexed rows places) where
  abbrev es : List ((ℕ × ℕ) × Lanes)
  es = map link_entry rows

  pub indexed : IsIndexed es places
  indexed = record { sorted = are.rise.rise; index = are.index }

  -- the row at a place that is noted has the ends that it is noted for
  pub row_there : (a b i : ℕ) → IsNode a → IsNode b → noted_place (slice_index places (pair_place a b)) ≡ Some i → (r : LinkRow) × ((slice_get rows i ≡ Some r) × ((r.a ≡ a) × (r.b ≡ b)))
  row_there a b i is_a is_b noted = grind (arith, at_noted, indexed, slice_get-map)

  -- a row is found at its ends
  pub row_found : (i : ℕ) (r : LinkRow) → slice_get rows i ≡ Some r → get (links_of rows) (r.a, r.b) ≡ Some (lanes_in r)
  row_found i r here = get-from_sorted pair_cmp_total es (r.a, r.b) are.rise.rise ∙ found pair_cmp pair_cmp_total es i (link_entry r) are.rise.rise (slice_get-map link_entry rows i ∙ ap (option_map link_entry) here)

-- The link of x and y was looked for in a table of links, and this is the place that is noted for it.
pub record LookedUp (t : Links) (rows : List LinkRow) (places : List ℕ) (x y : ℕ) (at : Option ℕ) : Type 0 where
  pub are : AreIndexed rows places
  pub stand : links_of rows ≡ t
  pub first : IsNode (ends x y).0
  pub second : IsNode (ends x y).1
  pub noted : link_place places x y ≡ at

-- as a body finds it, which reads the places as a slice
pub looked_up : {t : Links} {rows : List LinkRow} {places slice : List ℕ} {found at : Option ℕ} (x y : ℕ) → AreIndexed rows places → links_of rows ≡ t → slice ≡ places →
    found ≡ link_place slice x y → IsNode (ends x y).0 → IsNode (ends x y).1 → found ≡ at → LookedUp t rows places x y at
looked_up x y are stand same value first second is =
    record { are = are; stand = stand; first = first; second = second; noted = ap (λ ps. link_place ps x y) (sym same) ∙ sym value ∙ is }

module _ {t : Links} {rows : List LinkRow} {places : List ℕ} {x y : ℕ} where
  pub still_turned : {at : Option ℕ} → LookedUp t rows places x y at → Turned t
  still_turned l = subst Turned l.stand (turned_of rows l.are.rise)

  -- no lane is there
  pub lane_absent : LookedUp t rows places x y None → lane_at t x y ≡ None
  unfolding lane_at
  lane_absent l = ap (λ s. option_map (toward x y) (get s (ends x y))) (sym l.stand)
      ∙ ap (option_map (toward x y)) (nothing_noted (map link_entry rows) places (indexed rows places l.are) (ends x y).0 (ends x y).1 l.first l.second l.noted)

  -- a change of an absent lane changes nothing
  pub none_changed : LookedUp t rows places x y None → (f : Lane → Lane) → t ≡ change_lane t x y f
  none_changed l f = lane_none_is t (still_turned l) x y f (lane_absent l)

  module _ {i : ℕ} (l : LookedUp t rows places x y (Some i)) where
    row_at : (r : LinkRow) × ((slice_get rows i ≡ Some r) × ((r.a ≡ (ends x y).0) × (r.b ≡ (ends x y).1)))
    row_at = row_there rows places l.are (ends x y).0 (ends x y).1 i l.first l.second l.noted

    pub within : i < length rows
    within = slice_get_within rows i _ row_at.1.0

    module _ (e : LinkRow) (is : e ≡ get_or rows i e) where
      same_row : e ≡ row_at.0
      same_row = is ∙ get_or_from_slice_get rows i row_at.0 e row_at.1.0

      row_is : slice_get rows i ≡ Some e
      row_is = row_at.1.0 ∙ ap Some (sym same_row)

      row_ends : ◌≡◌ {A = ℕ × ℕ} (e.a, e.b) (ends x y)
      row_ends = grind (arith, same_row, row_at)

      link_there : get t (ends x y) ≡ Some (lanes_in e)
      link_there = (λ j. get (sym l.stand j) (sym row_ends j)) ∙ row_found rows places l.are i e row_is

      pub lane_there : lane_at t x y ≡ Some (toward x y (lanes_in e))
      unfolding lane_at
      lane_there = ap (option_map (toward x y)) link_there

-- ---- a lane changed

-- a row with its lane from x to y changed
abbrev pub row_changed : ℕ → ℕ → (Lane → Lane) → LinkRow → LinkRow
row_changed x y f r = row_with r x y (f (toward x y (lanes_in r)))

module _ (t : Links) (turned : Turned t) (x y : ℕ) (f : Lane → Lane) where
  abbrev changed : ℕ × ℕ → Lanes → Lanes
  changed k l = record { forth = cond (eqb k.0 x && eqb k.1 y) (f l.forth) l.forth; back = cond (eqb k.1 x && eqb k.0 y) (f l.back) l.back }

  pub put_is_change : (r : LinkRow) → get t (ends x y) ≡ Some (lanes_in r) → insert t (ends x y) (lanes_in (row_changed x y f r)) ≡ change_lane t x y f
  put_is_change r there = same_links _ _ (λ k. get-insert t (ends x y) (lanes_in (row_changed x y f r)) k
      ∙ by_test (eq_by_cmp pair_cmp k (ends x y)) (λ c. cond c (Some (lanes_in (row_changed x y f r))) (get t k) ≡ option_map (changed k) (get t k))
      (λ tied. sym (ap (λ q. option_map (changed q) (get t q)) (same_pair k (ends x y) tied) ∙ ap (option_map (changed (ends x y))) there ∙ ap Some here))
      (λ apart. untouched k (get t k) refl apart)
      ∙ sym (get-change pair_cmp changed same_pair t k))
    where
      here : changed (ends x y) (lanes_in r) ≡ lanes_in (row_changed x y f r)
      here = by_test (nat_lt x y) (λ c. nat_lt x y ≡ c → get t (cond c (x, y) (y, x)) ≡ Some (lanes_in r) →
          changed (cond c (x, y) (y, x)) (lanes_in r) ≡ lanes_in (cond c (record r { forth = f (cond c r.forth r.back) }) (record r { back = f (cond c r.forth r.back) })))
          (λ _ up _. let one : (eqb x x && eqb y y) ≡ true = grind (arith, nat_tests) in let two : (eqb y x && eqb x y) ≡ false = grind (arith, nat_tests, up) in
          λ i. record { forth = cond (one i) (f r.forth) r.forth; back = cond (two i) (f r.back) r.back })
          (λ _ down is. let less : y < x = turned y x (ap is_some is) in
          let one : (eqb y x && eqb x y) ≡ false = grind (arith, nat_tests, less) in let two : (eqb x x && eqb y y) ≡ true = grind (arith, nat_tests) in
          λ i. record { forth = cond (one i) (f r.forth) r.forth; back = cond (two i) (f r.back) r.back }) refl there

      untouched : (k : ℕ × ℕ) (o : Option Lanes) → get t k ≡ o → eq_by_cmp pair_cmp k (ends x y) ≡ false → o ≡ option_map (changed k) o
      untouched k None is apart = refl
      untouched k (Some l) is apart = grind arith

-- a predicate on each row holds for each after a row with it is put
all_set : (P : LinkRow → Type 0) (rows : List LinkRow) (i : ℕ) (r : LinkRow) → P r → AllByRecursion P rows → AllByRecursion P (set rows i r)
all_set P [] i r one all = tt
all_set P (x ∷ rows) zero r one all = (one, all.1)
all_set P (x ∷ rows) (suc i) r one all = (all.0, all_set P rows i r one all.1)

all_at : (P : LinkRow → Type 0) (rows : List LinkRow) (i : ℕ) (r : LinkRow) → slice_get rows i ≡ Some r → AllByRecursion P rows → P r
all_at P [] i r here all = cc
all_at P (x ∷ rows) zero r here all = let same : x ≡ r = cc in subst P same all.0
all_at P (x ∷ rows) (suc i) r here all = all_at P rows i r here all.1

-- the ends stay
put_keeps : (x y : ℕ) (m : Lane) (e : LinkRow) → ((row_with e x y m).a ≡ e.a) × ((row_with e x y m).b ≡ e.b)
put_keeps x y m e = grind arith

module _ (rows : List LinkRow) (places : List ℕ) (are : AreIndexed rows places) where
  module _ (i : ℕ) (e r : LinkRow) (here : slice_get rows i ≡ Some e) (first : r.a ≡ e.a) (second : r.b ≡ e.b) where
    at_ends : HasKeyAt (map link_entry rows) i (e.a, e.b)
    at_ends = (lanes_in e, slice_get-map link_entry rows i ∙ ap (option_map link_entry) here)

    mapped : map link_entry (set rows i r) ≡ set (map link_entry rows) i ((e.a, e.b), lanes_in r)
    mapped = map-set link_entry rows i r ∙ (λ j. set (map link_entry rows) i ((first j, second j), lanes_in r))

    row_put : AreIndexed (set rows i r) places
    row_put =
        let still = still_indexed (map link_entry rows) places (indexed rows places are) (e.a, e.b) i (lanes_in r) at_ends in
        let less = all_at (λ z. z.a < z.b) rows i e here are.rise.turned in
        record {
          rise = record { turned = all_set (λ z. z.a < z.b) rows i r (omega (arith, less, first, second)) are.rise.turned; rise = ap (is_sorted pair_cmp) mapped ∙ still.sorted };
          few = omega (arith, are.few, length-set rows i r);
          index = rw mapped still.index;
        }

    links_put : links_of (set rows i r) ≡ insert (links_of rows) (e.a, e.b) (lanes_in r)
    links_put = ap from_sorted mapped ∙ is_put (map link_entry rows) places (indexed rows places are) (e.a, e.b) i (lanes_in r) at_ends

-- the lane from x to y was lent, and is left as f makes it
module _ {t : Links} {rows : List LinkRow} {places : List ℕ} {x y i : ℕ} (l : LookedUp t rows places x y (Some i)) (e : LinkRow) (is : e ≡ get_or rows i e)
    {lent left : Lane} (f : Lane → Lane) (value : lent ≡ toward x y (lanes_in e)) (called : left ≡ f lent) where
  pub lane_changed-indexed : AreIndexed (set rows i (row_with e x y left)) places
  lane_changed-indexed = row_put rows places l.are i e (row_with e x y left) (row_is l e is) (put_keeps x y left e).0 (put_keeps x y left e).1

  pub lane_changed : links_of (set rows i (row_with e x y left)) ≡ change_lane t x y f
  lane_changed = links_put rows places l.are i e (row_with e x y left) (row_is l e is) (put_keeps x y left e).0 (put_keeps x y left e).1
      ∙ (λ j. insert (l.stand j) (row_ends l e is j) (lanes_in (row_with e x y ((called ∙ ap f value) j))))
      ∙ put_is_change t (still_turned l) x y f e (link_there l e is)

-- ---- a link more

-- no link without a lane
pub no_link : (t : Links) (x y : ℕ) → lane_at t x y ≡ None → get t (ends x y) ≡ None
unfolding lane_at
no_link t x y none = grind arith

pub none_found : (rows : List LinkRow) (t : Links) (x y a b : ℕ) → LinksRise rows → links_of rows ≡ t → ◌≡◌ {A = ℕ × ℕ} (a, b) (ends x y) → lane_at t x y ≡ None → find pair_cmp (a, b) (map link_entry rows) ≡ None
none_found rows t x y a b rise is are_ends none =
    sym (get-from_sorted pair_cmp_total (map link_entry rows) (a, b) rise.rise) ∙ (λ i. get (is i) (are_ends i)) ∙ no_link t x y none

-- places that grew
pub still_noted : (rows : List LinkRow) (places more : List ℕ) → AreIndexed rows places → length more ≡ 4096 → ((k : ℕ) → slice_index more k ≡ slice_index places k) → AreIndexed rows more
still_noted rows places more are long kept = grind arith

all_insert : (P : LinkRow → Type 0) (rows : List LinkRow) (i : ℕ) (r : LinkRow) → P r → AllByRecursion P rows → AllByRecursion P (list.insert rows i r)
all_insert P rows zero r one all = (one, all)
all_insert P [] (suc i) r one all = (one, tt)
all_insert P (x ∷ rows) (suc i) r one all = (all.0, all_insert P rows i r one all.1)

module _ (rows : List LinkRow) (rise : LinksRise rows) (r : LinkRow) (less : r.a < r.b) (i : ℕ) (gap : IsGapFor pair_cmp (map link_entry rows) (r.a, r.b) i) where
  entries_made : map link_entry (list.insert rows i r) ≡ put pair_cmp (r.a, r.b) (lanes_in r) (map link_entry rows)
  entries_made = map-append link_entry (take i rows) (r ∷ drop i rows)
      ∙ (λ j. sym (take-map link_entry i rows) j ++ link_entry r ∷ sym (drop-map link_entry i rows) j) ∙ put_between pair_cmp (r.a, r.b) (lanes_in r) (map link_entry rows) i gap

  pub rise_made : LinksRise (list.insert rows i r)
  rise_made = record {
    turned = all_insert (λ z. z.a < z.b) rows i r less rise.turned;
    rise = ap (is_sorted pair_cmp) entries_made ∙ sorted-put pair_cmp_total (map link_entry rows) (r.a, r.b) (lanes_in r) rise.rise;
  }

  pub links_made : links_of (list.insert rows i r) ≡ insert (links_of rows) (r.a, r.b) (lanes_in r)
  links_made = ap from_sorted entries_made ∙ from_sorted-put pair_cmp_total (map link_entry rows) (r.a, r.b) (lanes_in r) rise.rise

-- ---- a link less

all_remove : (P : LinkRow → Type 0) (rows : List LinkRow) (i : ℕ) → AllByRecursion P rows → AllByRecursion P (list.remove rows i)
all_remove P [] zero all = tt
all_remove P [] (suc i) all = tt
all_remove P (x ∷ rows) zero all = all.1
all_remove P (x ∷ rows) (suc i) all = (all.0, all_remove P rows i all.1)

abbrev other_than : ℕ × ℕ → ℕ × ℕ → Bool
other_than k q = not (eq_by_cmp pair_cmp k q)

-- a key below all isn't among them
all_others : (k : ℕ × ℕ) (es : List ((ℕ × ℕ) × Lanes)) → below_all pair_cmp k es ≡ true → es ≡ where_key pair_cmp (other_than k) es
all_others k [] below = refl
all_others k (e ∷ es) below =
    let parts = both (is_lt (pair_cmp k e.0)) (below_all pair_cmp k es) below in
    let apart : other_than k e.0 ≡ true = ap not (not_tied (pair_cmp k e.0) parts.0) in
    ap (λ l. e ∷ l) (all_others k es parts.1) ∙ ap (λ c. cond c (e ∷ where_key pair_cmp (other_than k) es) (where_key pair_cmp (other_than k) es)) (sym apart)

taken_out : (es : List ((ℕ × ℕ) × Lanes)) (i : ℕ) (e : (ℕ × ℕ) × Lanes) → is_sorted pair_cmp es ≡ true → slice_get es i ≡ Some e → list.remove es i ≡ where_key pair_cmp (other_than e.0) es
taken_out [] i e sorted here = cc
taken_out (x ∷ es) zero e sorted here = grind (arith, both (below_all pair_cmp x.0 es) (is_sorted pair_cmp es) sorted, both, all_others)
taken_out (x ∷ es) (suc i) e sorted here =
    let parts = both (below_all pair_cmp x.0 es) (is_sorted pair_cmp es) sorted in
    let apart : other_than e.0 x.0 ≡ true = ap not ((eq_by_cmp_equiv pair_cmp_total).symm e.0 x.0 ∙ not_tied _ (below_each pair_cmp pair_cmp_total x.0 es i e parts.0 here)) in
    ap (λ l. x ∷ l) (taken_out es i e parts.1 here) ∙ ap (λ c. cond c (x ∷ where_key pair_cmp (other_than e.0) es) (where_key pair_cmp (other_than e.0) es)) (sym apart)

module _ (rows : List LinkRow) (rise : LinksRise rows) (i : ℕ) (r : LinkRow) (here : slice_get rows i ≡ Some r) where
  entries_left : map link_entry (list.remove rows i) ≡ where_key pair_cmp (other_than (r.a, r.b)) (map link_entry rows)
  entries_left = map-append link_entry (take i rows) (drop (suc i) rows) ∙ (λ j. sym (take-map link_entry i rows) j ++ sym (drop-map link_entry (suc i) rows) j)
      ∙ taken_out (map link_entry rows) i (link_entry r) rise.rise (slice_get-map link_entry rows i ∙ ap (option_map link_entry) here)

  pub rise_left : LinksRise (list.remove rows i)
  rise_left = record {
    turned = all_remove (λ z. z.a < z.b) rows i rise.turned;
    rise = ap (is_sorted pair_cmp) entries_left ∙ sorted-out pair_cmp_total (map link_entry rows) (r.a, r.b) rise.rise;
  }

  pub links_left : links_of (list.remove rows i) ≡ remove (links_of rows) (r.a, r.b)
  links_left = ap from_sorted entries_left ∙ from_sorted-out pair_cmp_total (map link_entry rows) (r.a, r.b) rise.rise

-- the link of x and y is taken out
module _ {t : Links} {rows : List LinkRow} {places : List ℕ} {x y i : ℕ} (l : LookedUp t rows places x y (Some i)) where
  pub rise_parted : LinksRise (list.remove rows i)
  rise_parted = rise_left rows l.are.rise i (row_at l).0 (row_at l).1.0

  pub links_parted : links_of (list.remove rows i) ≡ parted t x y
  links_parted = links_left rows l.are.rise i (row_at l).0 (row_at l).1.0 ∙ (λ j. remove (l.stand j) ((row_at l).1.1.0 j, (row_at l).1.1.1 j))

-- ---- places

zeros : (m k : ℕ) → slice_index (replicate m 0) k ≡ 0
zeros zero k = refl
zeros (suc m) zero = refl
zeros (suc m) (suc k) = zeros m k

-- a table of places that grew has the same places
pub kept_index : (old : List ℕ) (n k : ℕ) → length old ≤ n → slice_index (take n old ++ replicate (n - length old) 0) k ≡ slice_index old k
kept_index [] n k few = ap (λ l. slice_index (l ++ replicate (n - 0) 0) k) (take-nil n) ∙ zeros (n - 0) k
kept_index (x ∷ old) zero k few = absurd (omega (arith, few))
kept_index (x ∷ old) (suc n) zero few = refl
kept_index (x ∷ old) (suc n) (suc k) few = grind (arith, few, kept_index old n k (omega (arith, few)))

-- ---- the place of a new link

-- what isn't found ties with none
pub none_tied : (k : ℕ × ℕ) (es : List ((ℕ × ℕ) × Lanes)) (i : ℕ) (e : (ℕ × ℕ) × Lanes) → find pair_cmp k es ≡ None → slice_get es i ≡ Some e → eq_by_cmp pair_cmp k e.0 ≡ false
none_tied k [] i e none here = cc
none_tied k (x ∷ es) zero e none here = grind arith
none_tied k (x ∷ es) (suc i) e none here =
    none_tied k es i e (by_test (eq_by_cmp pair_cmp k x.0) (λ t. cond t (Some x.1) (find pair_cmp k es) ≡ None → find pair_cmp k es ≡ None) (λ _ some. cc) (λ _ later. later) none) here
