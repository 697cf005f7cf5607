-- The images of one write if everything before it was synced.
use Rattle.std.proofs.Common.{◌≡◌, ◌≢◌, ◌⊎◌, inl, inr, ℕ, suc, ◌+◌, ◌-◌, ◌<◌, ◌≤◌, List, [], ◌∷◌, ◌++◌, length, take, drop, Some, refl, sym, ◌∙◌, ap, subst, arith, append_assoc, length-append, length-take, slice_get, replicate}
use Rattle.std.proofs.lemmas.Bool.Decides.{nat_tests}
use Rattle.std.proofs.lemmas.List.{append-nil, length-replicate, nil_from_length, take_at}
use Rattle.std.proofs.Math.Seq.{drop-append-add, take-append-add}
use Rattle.coord_disk.specs.Model.Present.{Present, IsImage, WritesWithin, Torn, overwritten, whole}
use Rattle.coord_disk.proofs.Overwritten.{no_shorter, wrote_reads}

-- a write that may have failed leaves the torn bytes
pub torn : (bytes new : List ℕ) (at : ℕ) (p q : Present) → p ≡ whole bytes → WritesWithin at new p q → (c : List ℕ) → IsImage q c → Torn bytes at new c
torn bytes new at p q is wrote c image = grind (arith, no_shorter)

-- a write that may have failed may have left nothing of its bytes
pub untouched : (bytes new : List ℕ) (at : ℕ) (p : Present) → p ≡ whole bytes → (c : List ℕ) → IsImage p c → Torn bytes at new c
untouched bytes new at p is c image = grind (arith, no_shorter)

-- a write that may have failed may have left all of its bytes
pub overwritten_torn : (bytes new : List ℕ) (at : ℕ) → Torn bytes at new (overwritten bytes at new)
overwritten_torn bytes new at = wrote_reads at new (whole bytes) (record { no_shorter = omega arith; no_longer = omega arith; kept = λ i lt out. refl })

same_some : (x y : ℕ) → Some x ≡ Some y → x ≡ y
same_some x y e = cc

-- bytes that agree with a front begin with it
pub begins : (front following c : List ℕ) → ((i : ℕ) → i < length front → slice_get c i ≡ slice_get (front ++ following) i) → (rest : List ℕ) × (c ≡ front ++ rest)
begins [] following c agree = (c, refl)
begins (f ∷ front) following [] agree = absurd (cc (agree 0 (omega arith)))
begins (f ∷ front) following (x ∷ c) agree =
    let rest = begins front following c (λ i lt. agree (suc i) (omega (arith, lt))) in
    (rest.0, ap (λ (k : ℕ). k ∷ c) (same_some x f (agree 0 (omega arith))) ∙ ap (λ (l : List ℕ). f ∷ l) rest.1)

-- bytes that agree with others but in a hole begin so, whatever they have in the hole
pub begins_but_hole : (front hole block after c : List ℕ)
    → ((i : ℕ) → i < length front + length hole + length block → (i < length front) ⊎ (length front + length hole ≤ i) → slice_get c i ≡ slice_get (front ++ (hole ++ (block ++ after))) i)
    → length front + length hole ≤ length c → (other : List ℕ) × (rest : List ℕ) × (length other ≡ length hole) × (c ≡ front ++ (other ++ (block ++ rest)))
begins_but_hole [] [] block after c agree long =
    let rest = begins block after c (λ i lt. agree i (omega (arith, lt)) (inr (omega arith))) in
    ([], rest.0, refl, rest.1)
begins_but_hole [] (h ∷ hole) block after [] agree long = absurd (omega (arith, long))
begins_but_hole [] (h ∷ hole) block after (x ∷ c) agree long =
    let rest = begins_but_hole [] hole block after c (λ i lt out. agree (suc i) (omega (arith, lt)) (inr (omega (arith, out)))) (omega (arith, long)) in
    (x ∷ rest.0, rest.1, omega (arith, rest.2), ap (λ (l : List ℕ). x ∷ l) rest.3)
begins_but_hole (f ∷ front) hole block after [] agree long = absurd (omega (arith, long))
begins_but_hole (f ∷ front) hole block after (x ∷ c) agree long =
    let rest = begins_but_hole front hole block after c (λ i lt out. agree (suc i) (omega (arith, lt)) (one_on i out)) (omega (arith, long)) in
    (rest.0, rest.1, rest.2, ap (λ (k : ℕ). k ∷ c) (same_some x f (agree 0 (omega arith) (inl (omega arith)))) ∙ ap (λ (l : List ℕ). f ∷ l) rest.3)
  where
    one_on : (i : ℕ) → (i < length front) ⊎ (length front + length hole ≤ i) → (suc i < suc (length front)) ⊎ (suc (length front) + length hole ≤ suc i)
    one_on i (inl lt) = inl (omega (arith, lt))
    one_on i (inr le) = inr (omega (arith, le))

single : (l : List ℕ) → length l ≡ 1 → (x : ℕ) × (l ≡ x ∷ [])
single [] one = absurd (omega (arith, one))
single (x ∷ []) one = (x, refl)
single (x ∷ (y ∷ l)) one = absurd (omega (arith, one))

-- One byte is written over another: whatever a crash leaves at its place, the bytes before and after it stay.
pub torn_byte : (front following : List ℕ) (old new at : ℕ) → at ≡ length front → (c : List ℕ) → Torn (front ++ old ∷ following) at (new ∷ []) c → (x : ℕ) × (rest : List ℕ) × (c ≡ front ++ x ∷ (following ++ rest))
torn_byte front following old new at is c image =
    let long : length (front ++ old ∷ following) ≡ length front + 1 + length following = omega (arith, length-append front (old ∷ following)) in
    let found = begins_but_hole front (old ∷ []) following [] c
    (λ i lt out. image.kept i (omega (arith, lt, long)) (let other : i ≢ at = elsewhere i out in grind (arith, nat_tests)) ∙ ap (λ (l : List ℕ). slice_get (front ++ old ∷ l) i) (sym (append-nil following)))
    (omega (arith, long, image.no_shorter)) in
    let one = single found.0 found.2 in
    (one.0, found.1, found.3 ∙ ap (λ (l : List ℕ). front ++ (l ++ (following ++ found.1))) one.1)
  where
    elsewhere : (i : ℕ) → (i < length front) ⊎ (length front + 1 ≤ i) → i ≢ at
    elsewhere i (inl lt) = omega (arith, lt, is)
    elsewhere i (inr le) = omega (arith, le, is)

-- written over the bytes after a front
pub overwritten_after : (front following new : List ℕ) (at : ℕ) → at ≡ length front → 0 < length new → overwritten (front ++ following) at new ≡ front ++ (new ++ drop (length new) following)
overwritten_after front following [] at is some = absurd (omega (arith, some))
overwritten_after front following (b ∷ bs) at is some =
    let none : at - length (front ++ following) ≡ 0 = omega (arith, is, length-append front following) in
    rw (take_at front following at (sym is), none, is, drop-append-add front following (length (b ∷ bs)))

-- the bytes before a place, padded with zeros
abbrev pub padded : ℕ → List ℕ → List ℕ
padded n bytes = take n bytes ++ replicate (n - length bytes) 0

pub length_padded : (n : ℕ) (bytes : List ℕ) → length (padded n bytes) ≡ n
length_padded n bytes = omega (arith, length-append (take n bytes) (replicate (n - length bytes) 0), length-take n bytes, length-replicate {A = ℕ} (n - length bytes) 0)

-- written after a front, at a place of the rest
pub overwritten_inside : (front following new : List ℕ) (at n : ℕ) → at ≡ length front + n → 0 < length new → overwritten (front ++ following) at new ≡ front ++ (padded n following ++ (new ++ drop (n + length new) following))
overwritten_inside front following [] at n is some = absurd (omega (arith, some))
overwritten_inside front following (b ∷ bs) at n is some =
    let gap : at - length (front ++ following) ≡ n - length following = omega (arith, is, length-append front following) in
    let tail : at + length (b ∷ bs) ≡ length front + (n + length (b ∷ bs)) = omega (arith, is) in
    rw (gap, tail, is, take-append-add front following n, drop-append-add front following (n + length (b ∷ bs)), append_assoc, append_assoc)

-- if everything is synced, a crash leaves it
pub whole_image : (bytes : List ℕ) (p : Present) → p ≡ whole bytes → (c : List ℕ) → IsImage p c → c ≡ bytes
whole_image bytes p is c image =
    let there = subst (λ q. IsImage q c) is image in
    let rest = begins bytes [] c (λ i lt. there.kept i lt refl ∙ ap (λ (l : List ℕ). slice_get l i) (sym (append-nil bytes))) in
    rest.1 ∙ ap (λ (l : List ℕ). bytes ++ l) (nil_from_length rest.0 (omega (arith, there.no_longer, ap length rest.1, length-append bytes rest.0))) ∙ append-nil bytes
