-- Proofs by cases.
use Rattle.std.proofs.Common.{◌≡◌, ◌≢◌, ◌⊎◌, ℕ, true, Option, Some, None, refl, sym, subst, inl, inr, is_some}
use Rattle.std.proofs.lemmas.Bool.Decides.{eqb_tells}
pub use Rattle.coord_types.proofs.Sets.{both, by_test}

-- each number is u or it isn't
pub same_or_apart : (x u : ℕ) → (x ≡ u) ⊎ (x ≢ u)
same_or_apart x u = elim (eqb_tells x u) [ inl h ↦ inl h.1 | inr h ↦ inr h.1 ]

-- a predicate that holds at u and at each other number holds at every one
pub everywhere : (P : ℕ → Type 0) (u : ℕ) → P u → ((x : ℕ) → x ≢ u → P x) → (x : ℕ) → P x
everywhere P u here apart x = elim (same_or_apart x u) [ inl same ↦ subst P (sym same) here | inr far ↦ apart x far ]

-- the present value
pub some_value : {X : Type 0} (o : Option X) → is_some o ≡ true → (x : X) × (o ≡ Some x)
some_value None e = cc
some_value (Some x) e = (x, refl)
