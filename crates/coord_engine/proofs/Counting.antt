-- What holds below i and at i holds below i + 1.
use Rattle.std.proofs.Common.{◌≡◌, ℕ, ◌+◌, ◌<◌, ◌==◌, Bool, true, false, refl, sym, subst, arith}
use Rattle.std.proofs.lemmas.Bool.Decides.{Decides-eqb, not_from_Decides}

at_last : (P : ℕ → Type 0) (i k : ℕ) → ((j : ℕ) → j < i → P j) → P i → k < i + 1 → (b : Bool) → (k == i) ≡ b → P k
at_last P i k below here lt true e = subst P (sym ((Decides-eqb k i).0 e)) here
at_last P i k below here lt false e = let other = not_from_Decides _ (Decides-eqb k i) e in below k (omega (arith, other, lt))

pub one_more : (P : ℕ → Type 0) (i : ℕ) → ((j : ℕ) → j < i → P j) → P i → (k : ℕ) → k < i + 1 → P k
one_more P i below here k lt = at_last P i k below here lt (k == i) refl
