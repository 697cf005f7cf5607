-- The scan from the left finds exactly the one field of a type.
use Rattle.std.proofs.Common.{◌≡◌, ◌≢◌, ◌⊎◌, inl, inr, subst, ℕ, zero, suc, ◌+◌, ◌-◌, ◌==◌, ◌≤◌, ◌<◌, nat_le, if◌then◌else◌, List, [], ◌∷◌, ◌++◌, length, take, drop, slice_index, Option, Some, None, Bool, true, false, refl, sym, ap, ◌∙◌, arith, length-drop, length-append}
use Rattle.std.proofs.lemmas.Bool.Decides.{eqb_tells, nat_tests}
use Rattle.std.proofs.lemmas.List.{take-append-drop, length-take-le}
use Rattle.std.proofs.Math.Seq.{take-append_seam, drop-append_seam, take-length}
use Rattle.proxy_header.specs.Fields.{AreFields, Field, HasOne, length_in, values_of}
use Rattle.proxy_header.specs.Scanning.{if_first, only_among, only_value}

-- ---- as many steps as there are bytes are enough

-- the same from equal rests
step_same : (b c : Bool) (found x y z w : Option (List ℕ)) → x ≡ y → z ≡ w
    → (if b then (if c then if_first found x else z) else None) ≡ (if b then (if c then if_first found y else w) else None)
step_same b c found x y z w ex ez = rw (ex, ez) refl

enough : (n m kind : ℕ) (bytes : List ℕ) (found : Option (List ℕ)) → length bytes ≤ n → length bytes ≤ m → only_among n kind bytes found ≡ only_among m kind bytes found
enough n m kind [] found hn hm = refl
enough zero m kind (of ∷ more) found hn hm = absurd (omega arith)
enough (suc n) zero kind (of ∷ more) found hn hm = absurd (omega arith)
enough (suc n) (suc m) kind (of ∷ []) found hn hm = refl
enough (suc n) (suc m) kind (of ∷ high ∷ []) found hn hm = refl
enough (suc n) (suc m) kind (of ∷ high ∷ low ∷ rest) found hn hm =
    let k = length_in high low in
    let short : length (drop k rest) ≤ length rest = omega (arith, length-drop k rest) in
    step_same (nat_le k (length rest)) (of == kind) found _ _ _ _
    (enough n m kind (drop k rest) (Some (take k rest)) (omega arith) (omega arith))
    (enough n m kind (drop k rest) found (omega arith) (omega arith))

-- ---- the steps of the code

pub field_none : (kind : ℕ) (bytes : List ℕ) (found : Option (List ℕ)) → length bytes < 1 → only_value kind bytes found ≡ found
unfolding only_value
field_none kind [] found short = refl
field_none kind (of ∷ more) found short = absurd (omega arith)

pub field_short : (kind : ℕ) (bytes : List ℕ) (found : Option (List ℕ)) → 1 ≤ length bytes → length bytes < 3 → only_value kind bytes found ≡ None
unfolding only_value
field_short kind [] found some short = absurd (omega arith)
field_short kind (of ∷ []) found some short = refl
field_short kind (of ∷ high ∷ []) found some short = refl
field_short kind (of ∷ high ∷ low ∷ rest) found some short = absurd (omega arith)

-- the length of the first field's value
abbrev pub first_length : List ℕ → ℕ
first_length bytes = length_in (slice_index bytes 1) (slice_index bytes 2)

pub field_after : (kind : ℕ) (bytes : List ℕ) (found : Option (List ℕ)) → 3 ≤ length bytes
    → only_value kind bytes found
    ≡ (if nat_le (first_length bytes) (length (drop 3 bytes)) then (if slice_index bytes 0 == kind then if_first found (only_value kind (drop (first_length bytes) (drop 3 bytes)) (Some (take (first_length bytes) (drop 3 bytes)))) else only_value kind (drop (first_length bytes) (drop 3 bytes)) found) else None)
unfolding only_value
field_after kind [] found long = absurd (omega arith)
field_after kind (of ∷ []) found long = absurd (omega arith)
field_after kind (of ∷ high ∷ []) found long = absurd (omega arith)
field_after kind (of ∷ high ∷ low ∷ rest) found long =
    let k = length_in high low in
    let short : length (drop k rest) ≤ length rest = omega (arith, length-drop k rest) in
    step_same (nat_le k (length rest)) (of == kind) found _ _ _ _
    (enough (suc (suc (length rest))) (length (drop k rest)) kind (drop k rest) (Some (take k rest)) (omega arith) (omega arith))
    (enough (suc (suc (length rest))) (length (drop k rest)) kind (drop k rest) found (omega arith) (omega arith))

pub ruleset field_steps = (field_none, field_short, field_after)

-- a slice up to the end
pub from_drop : (n : ℕ) (xs : List ℕ) → take (length xs - n) (drop n xs) ≡ drop n xs
from_drop n xs =
    let size : length (drop n xs) ≡ length xs - n = length-drop n xs in
    subst (λ (k : ℕ). take k (drop n xs) ≡ drop n xs) size (take-length (drop n xs))

-- a first field of another type
pub field_skipped : (kind : ℕ) (bytes rest next : List ℕ) (found : Option (List ℕ)) → rest ≡ drop 3 bytes → next ≡ drop (first_length bytes) rest → 3 ≤ length bytes → first_length bytes ≤ length rest → slice_index bytes 0 ≢ kind
    → only_value kind next found ≡ only_value kind bytes found
field_skipped kind bytes rest next found is next_is long fits not =
    let fit : nat_le (first_length bytes) (length rest) ≡ true = grind (arith, nat_tests) in
    elim (eqb_tells (slice_index bytes 0) kind) [
      | inl h ↦ absurd (not h.1)
      | inr h ↦ ap (λ bs. only_value kind bs found) next_is ∙ sym (field_after kind bytes found long ∙ rw (← is, fit, h.0) refl)
    ]

-- the first field of the type
pub field_taken : (kind : ℕ) (bytes rest next : List ℕ) (found : Option (List ℕ)) → rest ≡ drop 3 bytes → next ≡ drop (first_length bytes) rest → 3 ≤ length bytes → first_length bytes ≤ length rest → slice_index bytes 0 ≡ kind → found ≡ None
    → only_value kind next (Some (take (first_length bytes) rest)) ≡ only_value kind bytes found
field_taken kind bytes rest next found is next_is long fits same none =
    let fit : nat_le (first_length bytes) (length rest) ≡ true = grind (arith, nat_tests) in
    elim (eqb_tells (slice_index bytes 0) kind) [
      | inl h ↦ ap (λ bs. only_value kind bs (Some (take (first_length bytes) rest))) next_is ∙ sym (field_after kind bytes found long ∙ rw (← is, fit, h.0, none) refl)
      | inr h ↦ absurd (h.1 same)
    ]

-- ---- the grammar

-- the value found before, and those of the fields
abbrev pub with_found : Option (List ℕ) → List (List ℕ) → List (List ℕ)
with_found None values = values
with_found (Some v) values = v ∷ values

pub record HasOneWith (kind : ℕ) (found : Option (List ℕ)) (value bytes : List ℕ) : Type 0 where
  pub fields : List Field
  pub are : AreFields bytes fields
  pub one : with_found found (values_of kind fields) ≡ value ∷ []

abbrev as_field : ℕ → List ℕ → Field
as_field kind value = record { kind = kind; value = value }

-- one more field before the others
one_more : (of high low : ℕ) (rest : List ℕ) (fields : List Field)
    → length_in high low ≤ length rest → AreFields (drop (length_in high low) rest) fields
    → AreFields (of ∷ high ∷ low ∷ rest) (as_field of (take (length_in high low) rest) ∷ fields)
one_more of high low rest fields fits are =
    let k = length_in high low in (
      drop k rest,
      record {
        high = high;
        low = low;
        bytes_are = ap (λ r. of ∷ high ∷ low ∷ r) (sym (take-append-drop k rest));
        length_is = length-take-le k rest fits;
      },
      are,
    )

others : (kind of : ℕ) (found : Option (List ℕ)) (value v : List ℕ) (fields : List Field)
    → (of == kind) ≡ false → with_found found (values_of kind fields) ≡ value ∷ [] → with_found found (values_of kind (as_field of v ∷ fields)) ≡ value ∷ []
others kind of found value v fields not is = rw not is

taken : (kind of : ℕ) (value v : List ℕ) (fields : List Field)
    → (of == kind) ≡ true → with_found (Some v) (values_of kind fields) ≡ value ∷ [] → with_found None (values_of kind (as_field of v ∷ fields)) ≡ value ∷ []
taken kind of value v fields same is = rw same is

-- how a value is found
found_by : (b c : Bool) (found x z : Option (List ℕ)) (value : List ℕ)
    → (if b then (if c then if_first found x else z) else None) ≡ Some value
    → (b ≡ true) × (((c ≡ true) × (found ≡ None) × (x ≡ Some value)) ⊎ ((c ≡ false) × (z ≡ Some value)))
found_by true true None x z value is = (refl, inl (refl, refl, is))
found_by true true (Some v) x z value is = cc
found_by true false found x z value is = (refl, inr (refl, is))
found_by false c found x z value is = cc

found_at_end : (found : Option (List ℕ)) (value : List ℕ) → found ≡ Some value → with_found found [] ≡ value ∷ []
found_at_end None value is = cc
found_at_end (Some v) value is = cc

sound : (n kind : ℕ) (bytes : List ℕ) (found : Option (List ℕ)) (value : List ℕ) → only_among n kind bytes found ≡ Some value → HasOneWith kind found value bytes
sound n kind [] found value is = record { fields = []; are = refl; one = found_at_end found value is }
sound zero kind (of ∷ more) found value is = cc
sound (suc n) kind (of ∷ []) found value is = cc
sound (suc n) kind (of ∷ high ∷ []) found value is = cc
sound (suc n) kind (of ∷ high ∷ low ∷ rest) found value is =
    let k = length_in high low in
    let parts = found_by (nat_le k (length rest)) (of == kind) found (only_among n kind (drop k rest) (Some (take k rest))) (only_among n kind (drop k rest) found) value is in
    let fits : k ≤ length rest = grind (arith, nat_tests, parts.0) in
    elim parts.1 as (λ _. HasOneWith kind found value (of ∷ high ∷ low ∷ rest)) [
      | inl h ↦
          let more = sound n kind (drop k rest) (Some (take k rest)) value h.2 in
          let P : Option (List ℕ) → Type 0 = λ o. HasOneWith kind o value (of ∷ high ∷ low ∷ rest) in
          subst P (sym h.1) (record {
            fields = as_field of (take k rest) ∷ more.fields;
            are = one_more of high low rest more.fields fits more.are;
            one = taken kind of value (take k rest) more.fields h.0 more.one;
          })
      | inr h ↦
          let more = sound n kind (drop k rest) found value h.1 in
          record {
            fields = as_field of (take k rest) ∷ more.fields;
            are = one_more of high low rest more.fields fits more.are;
            one = others kind of found value (take k rest) more.fields h.0 more.one;
          }
    ]

ended_with : (found : Option (List ℕ)) (value : List ℕ) → with_found found [] ≡ value ∷ [] → found ≡ Some value
ended_with None value is = cc
ended_with (Some v) value is = cc

-- a field of the type is the first one
first_of_type : (found : Option (List ℕ)) (v value : List ℕ) (values : List (List ℕ)) → with_found found (v ∷ values) ≡ value ∷ [] → (found ≡ None) × (with_found (Some v) values ≡ value ∷ [])
first_of_type None v value values is = (refl, is)
first_of_type (Some w) v value values is = cc

by_type : (kind of : ℕ) (v : List ℕ) (fields : List Field) → (of == kind) ≡ true → values_of kind (as_field of v ∷ fields) ≡ v ∷ values_of kind fields
by_type kind of v fields same = rw same refl

by_other_type : (kind of : ℕ) (v : List ℕ) (fields : List Field) → (of == kind) ≡ false → values_of kind (as_field of v ∷ fields) ≡ values_of kind fields
by_other_type kind of v fields not = rw not refl

complete : (n kind : ℕ) (bytes : List ℕ) (found : Option (List ℕ)) (value : List ℕ) (fields : List Field) → length bytes ≤ n → AreFields bytes fields
    → with_found found (values_of kind fields) ≡ value ∷ [] → only_among n kind bytes found ≡ Some value
complete n kind bytes found value [] within are one = rw are (ended_with found value one)
complete zero kind bytes found value (f ∷ fields) within are one =
    let some : length bytes ≡ suc (suc (suc (length (f.value ++ are.0)))) = ap length are.1.bytes_are in
    absurd (omega arith)
complete (suc n) kind bytes found value (f ∷ fields) within are one =
    let rest = are.0 in
    let high = are.1.high in
    let low = are.1.low in
    let k = length_in high low in
    let some : length bytes ≡ suc (suc (suc (length (f.value ++ rest)))) = ap length are.1.bytes_are in
    let sum : length (f.value ++ rest) ≡ length f.value + length rest = length-append f.value rest in
    let size : length f.value ≡ k = are.1.length_is in
    let fits : nat_le k (length (f.value ++ rest)) ≡ true = grind (arith, nat_tests) in
    let value_is : take k (f.value ++ rest) ≡ f.value = subst (λ (m : ℕ). take m (f.value ++ rest) ≡ f.value) size (take-append_seam f.value rest) in
    let rest_is : drop k (f.value ++ rest) ≡ rest = subst (λ (m : ℕ). drop m (f.value ++ rest) ≡ rest) size (drop-append_seam f.value rest) in
    let within_rest : length rest ≤ n = omega arith in
    let P : List ℕ → Type 0 = λ bs. only_among (suc n) kind bs found ≡ Some value in
    subst P (sym are.1.bytes_are)
    (elim (eqb_tells f.kind kind) as (λ _. only_among (suc n) kind (f.kind ∷ high ∷ low ∷ (f.value ++ rest)) found ≡ Some value) [
      | inl h ↦
          let first = first_of_type found f.value value (values_of kind fields) (ap (with_found found) (sym (by_type kind f.kind f.value fields h.0)) ∙ one) in
          let more : only_among n kind rest (Some f.value) ≡ Some value = complete n kind rest (Some f.value) value fields within_rest are.2 first.1 in
          rw (fits, h.0, first.0, value_is, rest_is) more
      | inr h ↦
          let more : only_among n kind rest found ≡ Some value = complete n kind rest found value fields within_rest are.2 (ap (with_found found) (sym (by_other_type kind f.kind f.value fields h.0)) ∙ one) in
          rw (fits, h.0, rest_is) more
    ])

pub only_is_one : (kind : ℕ) (bytes value : List ℕ) → only_value kind bytes None ≡ Some value → HasOne kind value bytes
unfolding only_value
only_is_one kind bytes value is =
    let all = sound (length bytes) kind bytes None value is in
    record { fields = all.fields; are = all.are; one = all.one }

pub one_is_only : (kind : ℕ) (bytes value : List ℕ) → HasOne kind value bytes → only_value kind bytes None ≡ Some value
unfolding only_value
one_is_only kind bytes value one = complete (length bytes) kind bytes None value one.fields (omega arith) one.are one.one
