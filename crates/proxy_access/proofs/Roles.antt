-- The principals of roles.
use Rattle.std.proofs.Common.{◌≡◌, ◌≢◌, inl, inr, ℕ, ◌+◌, ◌-◌, ◌<◌, get_or, subst, sym, List, [], ◌∷◌, ◌++◌, length, map, take, refl, ap, ◌∙◌, arith, Option, Some, option_map, length-append}
use Rattle.std.specs.declared.alloc.Global.{Global}
use Rattle.std.specs.Prelude.{String, slice_get, string_bytes}
use Rattle.std.proofs.lemmas.Bool.Decides.{eqb_tells}
use Rattle.std.proofs.lemmas.List.{length-map, map-append}
use Rattle.std.proofs.lemmas.Option.{slice_get-get_or, slice_get-map, slice_get_within}
use Rattle.std.proofs.Math.Seq.{take-append_seam, take-length}
use Rattle.proxy_access.specs.Access.{principal_of}

abbrev pub names : List (String Global) → List (List ℕ)
names items = map string_bytes items

-- a role from 1 on
from_one : (all : List (List ℕ)) (role : ℕ) → role ≢ 0 → principal_of all role ≡ slice_get all (role - 1)
from_one all role is = elim (eqb_tells role 0) [ inl h ↦ absurd (is h.1) | inr h ↦ rw h.0 refl ]

pub role_of_place : (items : List (String Global)) (k : ℕ) (x : String Global) → slice_get items k ≡ Some x → principal_of (names items) (k + 1) ≡ Some (string_bytes x)
role_of_place items k x is =
    let one : k + 1 - 1 ≡ k = omega arith in
    let some : k + 1 ≢ 0 = omega arith in
    from_one (names items) (k + 1) some ∙ ap (slice_get (names items)) one ∙ slice_get-map string_bytes items k ∙ ap (option_map string_bytes) is

pub role_of_item : (items : List (String Global)) (k : ℕ) (x : String Global) → k < length items → x ≡ get_or items k x → principal_of (names items) (k + 1) ≡ Some (string_bytes x)
role_of_item items k x within is = role_of_place items k x (slice_get-get_or items k x within ∙ ap Some (sym is))

pub name_of_role : (items : List (String Global)) (role : ℕ) (o : Option (String Global)) → role ≢ 0 → slice_get items (role - 1) ≡ o → principal_of (names items) role ≡ option_map string_bytes o
name_of_role items role o some is = from_one (names items) role some ∙ slice_get-map string_bytes items (role - 1) ∙ ap (option_map string_bytes) is

last_place : (items : List (String Global)) (x : String Global) → slice_get (items ++ x ∷ []) (length items) ≡ Some x
last_place [] x = refl
last_place (y ∷ items) x = last_place items x

pub role_of_last : (items : List (String Global)) (x : String Global) → principal_of (names (items ++ x ∷ [])) (length (items ++ x ∷ [])) ≡ Some (string_bytes x)
role_of_last items x =
    let size : length (items ++ x ∷ []) ≡ length items + 1 = length-append items (x ∷ []) in
    ap (principal_of (names (items ++ x ∷ []))) size ∙ role_of_place (items ++ x ∷ []) (length items) x (last_place items x)

-- the others keep their roles
pub kept : (items more : List (String Global)) → take (length (names items)) (names (items ++ more)) ≡ names items
kept items more = ap (take (length (names items))) (map-append string_bytes items more) ∙ take-append_seam (names items) (names more)

pub kept_all : (items : List (String Global)) → take (length (names items)) (names items) ≡ names items
kept_all items = take-length (names items)

-- ---- a name that has no role

-- as far as the next place
pub absent_on : (items : List (String Global)) (name : List ℕ) (k : ℕ) (x : String Global) → k < length items → x ≡ get_or items k x → string_bytes x ≢ name
    → ((i : ℕ) → i < k → slice_get (names items) i ≢ Some name) → (i : ℕ) → i < k + 1 → slice_get (names items) i ≢ Some name
absent_on items name k x within is other before i less = elim (eqb_tells i k) [
  | inl h ↦ λ e. (
      let at : slice_get (names items) k ≡ Some (string_bytes x) = slice_get-map string_bytes items k ∙ ap (option_map string_bytes) (slice_get-get_or items k x within ∙ ap Some (sym is)) in
      let both : Some (string_bytes x) ≡ Some name = sym at ∙ subst (λ j. slice_get (names items) j ≡ Some name) h.1 e in
      other (cc both))
  | inr h ↦ before i (omega (arith, less, h.1))
]

pub no_role : (items : List (String Global)) (name : List ℕ) → ((i : ℕ) → i < length items → slice_get (names items) i ≢ Some name) → (role : ℕ) → principal_of (names items) role ≢ Some name
no_role items name absent role is = elim (eqb_tells role 0) [
  | inl h ↦ (let nobody : principal_of (names items) 0 ≡ Some name = subst (λ r. principal_of (names items) r ≡ Some name) h.1 is in absurd (cc nobody))
  | inr h ↦ (
      let at : slice_get (names items) (role - 1) ≡ Some name = sym (from_one (names items) role h.1) ∙ is in
      let within : role - 1 < length items = subst (λ n. role - 1 < n) (length-map items string_bytes) (slice_get_within (names items) (role - 1) name at) in
      absent (role - 1) within at)
]
