-- What a table's operations answer.
use Rattle.std.proofs.Common.{◌≡◌, Bool, true, not, List, [], ◌∷◌, Some, None, length, refl, sym, ap, ◌∙◌, cond, Ordering, is_some, arith}
use Rattle.std.proofs.lemmas.List.{nil_from_length}
use Rattle.std.specs.List.{list_any}
pub use Rattle.std.specs.Option.{option_map}
use Rattle.std.specs.Ordering.{eq_by_cmp, is_eq}
use Rattle.std.specs.Cmp.{IsTotalOrder, eq_by_cmp_equiv, alike_right}
use Rattle.std.specs.FinMap.{IsAntisymmetric}
use Rattle.std.specs.FinMap.Entries.{find, put, is_sorted, find-put, find-where_key, is_some-find, same_entries}
use Rattle.coord_types.specs.Table.{Table, entries, get, insert, remove, len, keys, change, changed_by, checked, from_sorted, empty, same_entries_table}

turned : {A : Type 0} (b : Bool) (x y : A) → cond (not b) x y ≡ cond b y x
turned b x y = grind arith

pub get-empty : {K X : Type 0} {R : K → K → Ordering} (o : IsTotalOrder R) (q : K) → get (empty {X = X} {o = o}) q ≡ None
unfolding get empty
get-empty o q = refl

pub len-empty : {K : Type 0} {R : K → K → Ordering} (o : IsTotalOrder R) (X : Type 0) → len (empty {X = X} {o = o}) ≡ 0
unfolding len empty
len-empty o X = refl

module _ {K X : Type 0} {R : K → K → Ordering} {o : IsTotalOrder R} where
  pub get-entries : (m : Table o X) (q : K) → get m q ≡ find R q (entries m)
  unfolding get
  get-entries m q = refl

  pub entries-insert : (m : Table o X) (k : K) (v : X) → entries (insert m k v) ≡ put R k v (entries m)
  unfolding insert
  entries-insert m k v = refl

  pub get-insert : (m : Table o X) (k : K) (v : X) (q : K) → get (insert m k v) q ≡ cond (eq_by_cmp R q k) (Some v) (get m q)
  unfolding get insert
  get-insert m k v q = find-put R o q k v m.list

  pub get-remove : (m : Table o X) (k q : K) → get (remove m k) q ≡ cond (eq_by_cmp R q k) None (get m q)
  unfolding get remove
  get-remove m k q =
      find-where_key R (λ x. not (eq_by_cmp R k x)) q (λ x t. ap (λ r. not (is_eq r)) (sym (alike_right o q x k t))) m.list
      ∙ turned (eq_by_cmp R k q) _ _ ∙ ap (λ b. cond b None (find R q m.list)) ((eq_by_cmp_equiv o).symm k q)

  pub len-entries : (m : Table o X) → len m ≡ length (entries m)
  unfolding len
  len-entries m = refl

  pub empty_of_len : (m : Table o X) → len m ≡ 0 → m ≡ empty
  unfolding len empty
  empty_of_len m e = same_entries_table m empty (nil_from_length m.list e)

  pub contains_key-keys : (m : Table o X) (q : K) → is_some (get m q) ≡ list_any (eq_by_cmp R q) (keys m)
  unfolding get keys
  contains_key-keys m q = is_some-find R q m.list

  pub same_table : IsAntisymmetric R → (m n : Table o X) → ((q : K) → get m q ≡ get n q) → m ≡ n
  unfolding get
  same_table same m n is = same_entries_table m n (same_entries R o same m.list n.list m.sorted n.sorted is)

module _ {K X : Type 0} {R : K → K → Ordering} (o : IsTotalOrder R) where
  entries-checked : (es : List (K × X)) (b : Bool) (e : is_sorted R es ≡ b) → b ≡ true → entries (checked {o = o} es b e) ≡ es
  unfolding checked
  entries-checked es b e h1 = grind arith

  pub entries-from_sorted : (es : List (K × X)) → is_sorted R es ≡ true → entries (from_sorted {o = o} es) ≡ es
  unfolding from_sorted
  entries-from_sorted es sorted = entries-checked es _ refl sorted

  pub get-from_sorted : (es : List (K × X)) (q : K) → is_sorted R es ≡ true → get (from_sorted {o = o} es) q ≡ find R q es
  unfolding get
  get-from_sorted es q sorted = ap (find R q) (entries-from_sorted es sorted)

  pub len-from_sorted : (es : List (K × X)) → is_sorted R es ≡ true → len (from_sorted {o = o} es) ≡ length es
  unfolding len
  len-from_sorted es sorted = ap length (entries-from_sorted es sorted)

module _ {K X Y : Type 0} (R : K → K → Ordering) (f : K → X → Y) (same : (x y : K) → eq_by_cmp R x y ≡ true → x ≡ y) where
  find-changed : (q : K) (es : List (K × X)) → find R q (changed_by R f es) ≡ option_map (f q) (find R q es)
  find-changed q [] = refl
  find-changed q (e ∷ es) = grind (arith, find-changed q es)

  pub get-change : {o : IsTotalOrder R} (m : Table o X) (q : K) → get (change f m) q ≡ option_map (f q) (get m q)
  unfolding change get
  get-change m q = find-changed q m.list
