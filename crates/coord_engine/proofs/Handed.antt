-- One delivery more.
use Rattle.std.proofs.Common.{◌≡◌, ℕ, zero, suc, Bool, List, [], ◌∷◌, ◌++◌, ◌+◌, ◌∙◌, Option, Some, None, drop, take, length, ◌<◌, refl, sym, ap, subst, arith, slice_get}
use Rattle.coord_types.specs.declared.outputs.Output.{Output}
use Rattle.coord_types.specs.declared.outputs.Output.TheVariants as output
use Rattle.coord_types.specs.declared.packets.Packet.{Packet}
use Rattle.coord_ledger.specs.declared.release.Release.{Release}
use Rattle.coord_engine.specs.Facade.{AreAsked, IsAsked, MayAsk, MayAskAll, deliveries_of, delivery_of}
use Rattle.coord_engine.specs.declared.port.Delivery.{Delivery}

abbrev some_is : {A : Type 0} → A → Option A → A
some_is d None = d
some_is d (Some x) = x

next_at : (k : ℕ) (released : List Release) (r : Release) → slice_get (drop k released) 0 ≡ Some r → deliveries_of (take (suc k) released) ≡ deliveries_of (take k released) ++ delivery_of r.step r.output ∷ []
next_at zero [] r is = cc
next_at (suc k) [] r is = cc
next_at zero (x ∷ xs) r is = ap (λ y. delivery_of y.step y.output ∷ []) (ap (some_is r) is)
next_at (suc k) (x ∷ xs) r is = ap (λ l. delivery_of x.step x.output ∷ l) (next_at k xs r is)

-- the next release is asked for after those before it
next_asked : (k : ℕ) (released : List Release) (r : Release) → slice_get (drop k released) 0 ≡ Some r → deliveries_of (take (k + 1) released) ≡ deliveries_of (take k released) ++ delivery_of r.step r.output ∷ []
next_asked k released r is = let e : k + 1 ≡ suc k = omega arith in ap (λ n. deliveries_of (take n released)) e ∙ next_at k released r is

-- there is a next release as long as not all were handed over
pub one_left : (k : ℕ) (released : List Release) → slice_get (drop k released) 0 ≡ None → k < length released → ⊥
one_left zero [] is lt = omega (arith, lt)
one_left (suc k) [] is lt = omega (arith, lt)
one_left zero (x ∷ xs) is lt = cc
one_left (suc k) (x ∷ xs) is lt = one_left k xs is (omega (arith, lt))

-- a port that may be asked for some may be asked for the next one, and for those after it
one_may : (may : ℕ → ℕ → ℕ → Type 0) (left rest : List Release) (step : ℕ) (given : Output) → MayAskAll may left → left ≡ record { step = step; output = given } ∷ rest → MayAsk may (delivery_of step given)
one_may may left rest step (output.Sent p) all is = tt
one_may may left rest step (output.Receipted p) all is = tt
one_may may left rest step (output.Signalled node epoch) all is = all [] rest step node epoch is

next_may : (may : ℕ → ℕ → ℕ → Type 0) (left : List Release) (r : Release) → MayAskAll may left → slice_get left 0 ≡ Some r → MayAsk may (delivery_of r.step r.output)
next_may may [] r all is = cc
next_may may (x ∷ xs) r all is = subst (λ y. MayAsk may (delivery_of y.step y.output)) (ap (some_is r) is) (one_may may (x ∷ xs) xs x.step x.output all refl)

pub may_ask_next : (may : ℕ → ℕ → ℕ → Type 0) (left : List Release) (r : Release) (d : Delivery) → MayAskAll may left → slice_get left 0 ≡ Some r → d ≡ delivery_of r.step r.output → MayAsk may d
may_ask_next may left r d all is same = subst (MayAsk may) (sym same) (next_may may left r all is)

pub may_ask_rest : (may : ℕ → ℕ → ℕ → Type 0) (left : List Release) → MayAskAll may left → MayAskAll may (drop 1 left)
may_ask_rest may [] all = all
may_ask_rest may (x ∷ xs) all = λ before after step node epoch is. all (x ∷ before) after step node epoch (ap (λ l. x ∷ l) is)

module _ {P : Type 0} (carried : P → ℕ → Packet → Bool → P → Type 0) (signalled : P → ℕ → ℕ → ℕ → Bool → P → Type 0) where
  asked_last : (s m t : P) (ds : List Delivery) (d : Delivery) → AreAsked carried signalled s ds m → IsAsked carried signalled m d t → AreAsked carried signalled s (ds ++ d ∷ []) t
  asked_last s m t [] d is last = (t, rw (sym is) last, refl)
  asked_last s m t (e ∷ ds) d is last = (is.0, is.1, asked_last is.0 m t ds d is.2 last)

  -- one more is handed over
  pub hands_next : (s m t u : P) (k : ℕ) (released left : List Release) (r : Release) (d : Delivery) → left ≡ drop k released → AreAsked carried signalled s (deliveries_of (take k released)) m
      → slice_get left 0 ≡ Some r → d ≡ delivery_of r.step r.output → IsAsked carried signalled m d u → t ≡ u → AreAsked carried signalled s (deliveries_of (take (k + 1) released)) t
  hands_next s m t u k released left r d at is next asked last same = grind (arith, asked_last, next_asked)
