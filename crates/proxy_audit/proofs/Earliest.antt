-- The earliest time since which lines are left out, over the quotas that an iterator has given.
use Rattle.std.proofs.Common.{◌≡◌, ℕ, List, [], ◌∷◌, ◌++◌, map, Bor, Option, refl}
use Rattle.std.specs.Map.{values_of}
use Rattle.std.specs.Map.Iter.{deref_pair}
use Rattle.proxy_audit.specs.Quotas.{Quota, earliest_since, with_since}

abbrev pub earliest_given : Option ℕ → List (Bor ℕ × Bor Quota) → Option ℕ
earliest_given earliest [] = earliest
earliest_given earliest (p ∷ ps) = earliest_given (with_since earliest p.1.now) ps

pub with_one_more : (earliest : Option ℕ) (ps : List (Bor ℕ × Bor Quota)) (p : Bor ℕ × Bor Quota) → earliest_given earliest (ps ++ p ∷ []) ≡ with_since (earliest_given earliest ps) p.1.now
with_one_more earliest [] p = refl
with_one_more earliest (q ∷ ps) p = with_one_more (with_since earliest q.1.now) ps p

pub of_values : (earliest : Option ℕ) (ps : List (Bor ℕ × Bor Quota)) → earliest_given earliest ps ≡ earliest_since earliest (values_of (map deref_pair ps))
of_values earliest [] = refl
of_values earliest (p ∷ ps) = of_values (with_since earliest p.1.now) ps
