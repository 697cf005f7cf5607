-- A principal whose count is due, among all of them.
use Rattle.std.proofs.Common.{◌≡◌, ℕ, zero, suc, false, List, [], ◌∷◌, map, Bor, subst, arith}
use Rattle.std.proofs.lemmas.List.Elements.{All-map}
use Rattle.std.specs.List.{All}
use Rattle.std.specs.Map.{values_of}
use Rattle.std.specs.Map.Iter.{deref_pair}
use Rattle.proxy_audit.specs.Quotas.{Quota, is_due}

pub one : {X : Type 0} (P : X → Type 0) (x : X) → P x → All P (x ∷ [])
one P x is zero d less = is
one P x is (suc k) d less = absurd (omega arith)

abbrev pub IsNotDue : ℕ → Bor ℕ × Bor Quota → Type 0
IsNotDue now p = is_due now p.1.now ≡ false

pub none_due : (now : ℕ) (yielded : List (Bor ℕ × Bor Quota)) (entries : List (ℕ × Quota)) → map deref_pair yielded ≡ entries → All (IsNotDue now) yielded → All (λ q. is_due now q ≡ false) (values_of entries)
none_due now yielded entries same all =
    let P : List (ℕ × Quota) → Type 0 = λ es. All (λ (q : Quota). is_due now q ≡ false) (values_of es) in
    subst P same (All-map (λ (q : Quota). is_due now q ≡ false) (λ (e : ℕ × Quota). e.1) (map deref_pair yielded) (All-map (λ (e : ℕ × Quota). is_due now e.1 ≡ false) deref_pair yielded all))
