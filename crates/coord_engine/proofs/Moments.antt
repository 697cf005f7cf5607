-- Answers at some moment.
use Rattle.std.proofs.Common.{Option, Some, None, Result, Ok, Err, IfNone, IfOk}
use Rattle.coord_engine.specs.Facade.{AtSomeMoment, Basis, CanHold, GuardedState}

module _ {D : Type 0} (b : Basis D) (g : GuardedState D) (is : CanHold b g) where
  pub then : (P : GuardedState D → Type 0) → P g → AtSomeMoment b P
  then P p = record { state = g; held = is; so = p }

  pub on_ok : {T E : Type 0} (r : Result T E) (P : T → GuardedState D → Type 0) → IfOk r (λ x. P x g) → IfOk r (λ x. AtSomeMoment b (P x))
  on_ok (Ok x) P p = then (P x) p
  on_ok (Err e) P p = tt

  pub on_none : {T : Type 0} (r : Option T) (Q P : GuardedState D → Type 0) → (Q g → P g) → IfNone r (Q g) → IfNone r (AtSomeMoment b P)
  on_none (Some x) Q P so q = tt
  on_none None Q P so q = then P (so q)
