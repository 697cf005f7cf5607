-- Sets of nodes, and lists in ascending order.
use Rattle.std.proofs.Common.{◌≡◌, ℕ, ◌+◌, ◌<◌, ◌≤◌, Bool, true, false, ◌&&◌, ◌||◌, not, List, [], ◌∷◌, ◌++◌, Option, Some, None, Ordering, map, refl, sym, ap, ◌∙◌, subst, arith, cond, eqb, length, T, nat_eq, is_some, Less, Equal, Greater}
use Rattle.std.specs.Ordering.{nat_cmp, eq_by_cmp, is_lt}
use Rattle.std.specs.List.{list_any, list_all, AllByRecursion}
use Rattle.std.specs.List.Sorted.{IsStrictlySortedBy}
use Rattle.std.specs.FinMap.{nat_cmp-IsAntisymmetric}
use Rattle.coord_types.specs.Table as table
use Rattle.coord_types.proofs.Tables as fm
use Rattle.coord_types.proofs.Tables.{same_table}
use Rattle.std.specs.FinMap.Entries.{put, by_order, below_all, is_sorted}
use Rattle.std.proofs.lemmas.Bool.Decides.{nat_tests}
use Rattle.std.proofs.lemmas.Map.Keys.{sorted_head}
use Rattle.coord_types.specs.NodeSet.{NodeSet, contains, empty, insert, remove, len, items, from_list, first, first_of, is_subset}

-- on a test, with its answer
pub by_test : (b : Bool) (P : Bool → Type 0) → (b ≡ true → P true) → (b ≡ false → P false) → P b
by_test true P t f = t refl
by_test false P t f = f refl

some_or : (b : Bool) (o : Option (Unit {0})) → is_some (cond b (Some tt) o) ≡ (b || is_some o)
some_or true o = refl
some_or false o = refl

none_or : (b : Bool) (o : Option (Unit {0})) → is_some (cond b None o) ≡ (not b && is_some o)
none_or true o = refl
none_or false o = refl

eq_by_nat : (q k : ℕ) → eq_by_cmp nat_cmp q k ≡ eqb q k
eq_by_nat q k = grind (arith, nat_tests)

pub contains-empty : (q : ℕ) → contains empty q ≡ false
unfolding contains empty
contains-empty q = refl

pub contains-insert : (s : NodeSet) (k q : ℕ) → contains (insert s k) q ≡ (eqb q k || contains s q)
unfolding contains insert
contains-insert s k q = ap is_some (fm.get-insert s k tt q) ∙ some_or (eq_by_cmp nat_cmp q k) (table.get s q) ∙ ap (λ b. b || is_some (table.get s q)) (eq_by_nat q k)

pub contains-remove : (s : NodeSet) (k q : ℕ) → contains (remove s k) q ≡ (not (eqb q k) && contains s q)
unfolding contains remove
contains-remove s k q = ap is_some (fm.get-remove s k q) ∙ none_or (eq_by_cmp nat_cmp q k) (table.get s q) ∙ ap (λ b. not b && is_some (table.get s q)) (eq_by_nat q k)

pub contains-from_list : (ks : List ℕ) (q : ℕ) → contains (from_list ks) q ≡ list_any (λ y. nat_eq y q) ks
unfolding from_list
contains-from_list [] q = contains-empty q
contains-from_list (k ∷ ks) q = grind (arith, nat_tests, contains-insert (from_list ks) k q, contains-from_list ks q)

same_unit : (o p : Option (Unit {0})) → is_some o ≡ is_some p → o ≡ p
same_unit None None e = refl
same_unit None (Some p) e = cc
same_unit (Some o) None e = cc
same_unit (Some o) (Some p) e = refl

-- sets with the same members are equal
pub same_nodes : (s t : NodeSet) → ((q : ℕ) → contains s q ≡ contains t q) → s ≡ t
unfolding contains
same_nodes s t same = same_table nat_cmp-IsAntisymmetric s t (λ q. same_unit _ _ (same q))

pub empty_of_len : (s : NodeSet) → len s ≡ 0 → s ≡ empty
unfolding len empty
empty_of_len s e = fm.empty_of_len s e

pub len-empty : len empty ≡ 0
unfolding len empty
len-empty = refl

pub len_zero : (s : NodeSet) → ((q : ℕ) → contains s q ≡ false) → len s ≡ 0
len_zero s none = ap len (same_nodes s empty (λ q. none q ∙ sym (contains-empty q))) ∙ len-empty

-- a number below all goes to the front
front : (k : ℕ) (es : List (ℕ × Unit {0})) → AllByRecursion (λ y. nat_cmp k y ≡ Less) (map (λ e. e.0) es) → put nat_cmp k tt es ≡ (k, tt) ∷ es
front k [] below = refl
front k (e ∷ es) below = ap (λ o. by_order o ((k, tt) ∷ e ∷ es) ((e.0, tt) ∷ es) (e ∷ put nat_cmp k tt es)) below.0

items-insert_front : (s : NodeSet) (k : ℕ) → AllByRecursion (λ y. nat_cmp k y ≡ Less) (items s) → items (insert s k) ≡ k ∷ items s
unfolding items insert
items-insert_front s k below = ap (map (λ e. e.0)) (fm.entries-insert s k tt ∙ front k (table.entries s) below)

pub items-empty : items empty ≡ []
unfolding items empty
items-empty = refl

pub ruleset node_sets = (contains-empty, contains-insert, contains-remove, contains-from_list, len-empty)

-- one node alone
pub items_only : (k : ℕ) → items (insert empty k) ≡ k ∷ []
items_only k = items-insert_front empty k (subst (AllByRecursion (λ y. nat_cmp k y ≡ Less)) (sym items-empty) tt) ∙ ap (λ l. k ∷ l) items-empty

pub ruleset listed = (items_only, items-empty)

greater : (k y : ℕ) → y < k → nat_cmp k y ≡ Greater
greater k y below = grind (arith, nat_tests)

-- a number above all goes to the end
back : (k : ℕ) (es : List (ℕ × Unit {0})) → AllByRecursion (λ y. y < k) (map (λ e. e.0) es) → put nat_cmp k tt es ≡ es ++ (k, tt) ∷ []
back k [] below = refl
back k (e ∷ es) below =
    let above : nat_cmp k e.0 ≡ Greater = greater k e.0 below.0 in
    ap (λ o. by_order o ((k, tt) ∷ e ∷ es) ((e.0, tt) ∷ es) (e ∷ put nat_cmp k tt es)) above ∙ ap (λ l. e ∷ l) (back k es below.1)

map-push : (es : List (ℕ × Unit {0})) (k : ℕ) → map (λ e. e.0) (es ++ (k, tt) ∷ []) ≡ map (λ e. e.0) es ++ k ∷ []
map-push [] k = refl
map-push (e ∷ es) k = ap (λ l. e.0 ∷ l) (map-push es k)

pub items-insert_back : (s : NodeSet) (k : ℕ) → AllByRecursion (λ y. y < k) (items s) → items (insert s k) ≡ items s ++ k ∷ []
unfolding items insert
items-insert_back s k below = ap (map (λ e. e.0)) (fm.entries-insert s k tt ∙ back k (table.entries s) below) ∙ map-push (table.entries s) k

any_tied : (q : ℕ) (xs : List ℕ) → list_any (eq_by_cmp nat_cmp q) xs ≡ list_any (λ y. nat_eq y q) xs
any_tied q [] = refl
any_tied q (x ∷ xs) = grind (arith, nat_tests, any_tied q xs)

-- a set has what its items have
pub contains-items : (s : NodeSet) (q : ℕ) → contains s q ≡ list_any (λ y. nat_eq y q) (items s)
unfolding contains items
contains-items s q = fm.contains_key-keys s q ∙ any_tied q (table.keys s)

length-keys : (es : List (ℕ × Unit {0})) → length (map (λ e. e.0) es) ≡ length es
length-keys [] = refl
length-keys (e ∷ es) = omega (arith, length-keys es)

pub len_of_items : (s : NodeSet) → len s ≡ length (items s)
unfolding len items
len_of_items s = sym (length-keys (table.entries s))

split_and : (a b : Bool) → T (a && b) → T a × T b
split_and true b h = (tt, h)
split_and false b h = absurd h

is_less : (o : Ordering) → T (is_lt o) → o ≡ Less
is_less Less h = refl
is_less Equal h = absurd h
is_less Greater h = absurd h

below_listed : (k : ℕ) (es : List (ℕ × Unit {0})) → T (below_all nat_cmp k es) → AllByRecursion (λ y. nat_cmp k y ≡ Less) (map (λ e. e.0) es)
below_listed k [] below = tt
below_listed k (e ∷ es) below =
    let both = split_and (is_lt (nat_cmp k e.0)) (below_all nat_cmp k es) below in
    (is_less _ both.0, below_listed k es both.1)

sorted_listed : (es : List (ℕ × Unit {0})) → T (is_sorted nat_cmp es) → IsStrictlySortedBy nat_cmp (map (λ e. e.0) es)
unfolding IsStrictlySortedBy
sorted_listed [] sorted = tt
sorted_listed (e ∷ es) sorted =
    let both = split_and (below_all nat_cmp e.0 es) (is_sorted nat_cmp es) sorted in
    (below_listed e.0 es both.0, sorted_listed es both.1)

pub items-sorted : (s : NodeSet) → IsStrictlySortedBy nat_cmp (items s)
unfolding items
items-sorted s = sorted_listed (table.entries s) s.sorted

-- a set is the set of its items
pub from_list-items : (s : NodeSet) → from_list (items s) ≡ s
from_list-items s = same_nodes _ _ (λ q. contains-from_list (items s) q ∙ sym (contains-items s q))

or_later : (a b : Bool) → b ≡ true → (a || b) ≡ true
or_later true b e = refl
or_later false b e = e

-- a predicate on each listed number
pub all_listed : (P : ℕ → Type 0) (xs : List ℕ) → ((q : ℕ) → list_any (λ y. nat_eq y q) xs ≡ true → P q) → AllByRecursion P xs
all_listed P [] each = tt
all_listed P (x ∷ xs) each = (each x (grind (arith, nat_tests)), all_listed P xs (λ q any. each q (or_later (nat_eq x q) _ any)))

-- the least member comes first
pub items_least : (s : NodeSet) (k : ℕ) → contains s k ≡ true → ((q : ℕ) → contains s q ≡ true → k ≤ q) → items s ≡ k ∷ items (remove s k)
items_least s k has least =
    let whole : s ≡ insert (remove s k) k = same_nodes _ _ (λ q. grind (arith, nat_tests, contains-insert (remove s k) k q, contains-remove s k q, has)) in
    ap items whole
    ∙ items-insert_front (remove s k) k
    (all_listed _ (items (remove s k)) (λ q any. above q (sym (contains-remove s k q) ∙ contains-items (remove s k) q ∙ any) (least q)))
  where
    above : (q : ℕ) → (not (eqb q k) && contains s q) ≡ true → (contains s q ≡ true → k ≤ q) → nat_cmp k q ≡ Less
    above q more bound = grind (arith, nat_tests)

-- a number below all that are listed is below each
below_each : (k q : ℕ) (xs : List ℕ) → AllByRecursion (λ y. nat_cmp k y ≡ Less) xs → list_any (λ y. nat_eq y q) xs ≡ true → k < q
below_each k q [] below any = cc
below_each k q (x ∷ xs) below any =
    by_test (nat_eq x q) (λ b. (b || list_any (λ y. nat_eq y q) xs) ≡ true → k < q) (λ is _. grind (arith, nat_tests, below.0, is)) (λ _ further. below_each k q xs below.1 further) any

-- a set's first member, and the rest after it
after_first : (s : NodeSet) (k : ℕ) (xs : List ℕ) → items s ≡ xs → IsStrictlySortedBy nat_cmp xs → first_of xs ≡ Some k → items s ≡ k ∷ items (remove s k)
after_first s k [] is sorted e = cc
after_first s k (x ∷ xs) is sorted e =
    let same : x ≡ k = cc in
    let member : (q : ℕ) → contains s q ≡ (nat_eq x q || list_any (λ y. nat_eq y q) xs) = λ q. contains-items s q ∙ ap (list_any (λ y. nat_eq y q)) is in
    items_least s k (grind (arith, nat_tests, member k, same))
    (λ q has. least q same (sym (member q) ∙ has) (below_each x q xs (sorted_head nat_cmp x xs sorted)))
  where
    least : (q : ℕ) → x ≡ k → (nat_eq x q || list_any (λ y. nat_eq y q) xs) ≡ true → (list_any (λ y. nat_eq y q) xs ≡ true → x < q) → k ≤ q
    least q same any following = grind (arith, nat_tests)

pub items-first : (s : NodeSet) (k : ℕ) → first s ≡ Some k → items s ≡ k ∷ items (remove s k)
items-first s k e = after_first s k (items s) refl (items-sorted s) e

pub len-first : (s : NodeSet) (k : ℕ) → first s ≡ Some k → len s ≡ len (remove s k) + 1
len-first s k e = grind (arith, len_of_items s, len_of_items (remove s k), ap length (items-first s k e))

-- two tests that hold
pub both : (a b : Bool) → (a && b) ≡ true → (a ≡ true) × (b ≡ true)
both true b e = (refl, e)
both false b e = cc

-- a subset, member by member
at_listed : (p : ℕ → Bool) (xs : List ℕ) (q : ℕ) → list_all p xs ≡ true → list_any (λ y. nat_eq y q) xs ≡ true → p q ≡ true
at_listed p [] q all any = cc
at_listed p (x ∷ xs) q all any =
    let parts = both (p x) (list_all p xs) all in
    by_test (nat_eq x q) (λ b. (b || list_any (λ y. nat_eq y q) xs) ≡ true → p q ≡ true)
    (λ is _. let e : x ≡ q = grind (arith, nat_tests, is) in ap p (sym e) ∙ parts.0) (λ _ further. at_listed p xs q parts.1 further) any

list_all_by : (p : ℕ → Bool) (xs : List ℕ) → AllByRecursion (λ x. p x ≡ true) xs → list_all p xs ≡ true
list_all_by p [] each = refl
list_all_by p (x ∷ xs) each = ap (λ b. b && list_all p xs) each.0 ∙ list_all_by p xs each.1

pub contains-subset : (s t : NodeSet) → is_subset s t ≡ true → (q : ℕ) → contains s q ≡ true → contains t q ≡ true
contains-subset s t is q has = at_listed (λ v. contains t v) (items s) q is (sym (contains-items s q) ∙ has)

pub is_subset_by : (s t : NodeSet) → ((q : ℕ) → contains s q ≡ true → contains t q ≡ true) → is_subset s t ≡ true
is_subset_by s t each = list_all_by (λ v. contains t v) (items s) (all_listed _ (items s) (λ q any. each q (contains-items s q ∙ any)))
