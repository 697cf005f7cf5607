-- The bytes after a write.
use Rattle.std.proofs.Common.{◌≡◌, ◌⊎◌, inl, inr, ℕ, zero, suc, ◌+◌, ◌-◌, ◌<◌, ◌≤◌, max, false, List, [], ◌∷◌, ◌++◌, length, take, drop, refl, sym, ◌∙◌, ap, arith, append_assoc, length-append, length-take, length-drop, slice_get, replicate, ◌||◌, Bool}
use Rattle.std.proofs.lemmas.List.{append-nil, drop-drop, drop_all, length-replicate, take-replicate, take_all}
use Rattle.std.proofs.lemmas.Bool.Decides.{nat_tests}
use Rattle.coord_disk.specs.Model.Present.{Present, Range, IsImage, WritesWithin, is_within, overwritten, range_of, written_at}

pub get_left : (xs ys : List ℕ) (i : ℕ) → i < length xs → slice_get (xs ++ ys) i ≡ slice_get xs i
get_left [] ys i lt = absurd (omega (arith, lt))
get_left (x ∷ xs) ys zero lt = refl
get_left (x ∷ xs) ys (suc i) lt = get_left xs ys i (omega (arith, lt))

pub get_right : (xs ys : List ℕ) (i n : ℕ) → i ≡ length xs + n → slice_get (xs ++ ys) i ≡ slice_get ys n
get_right [] ys i n is = let same : i ≡ n = omega (arith, is) in ap (λ (k : ℕ). slice_get ys k) same
get_right (x ∷ xs) ys zero n is = absurd (omega (arith, is))
get_right (x ∷ xs) ys (suc i) n is = get_right xs ys i n (omega (arith, is))

pub get_take : (xs : List ℕ) (n i : ℕ) → i < n → slice_get (take n xs) i ≡ slice_get xs i
get_take xs zero i lt = absurd (omega (arith, lt))
get_take [] (suc n) i lt = refl
get_take (x ∷ xs) (suc n) zero lt = refl
get_take (x ∷ xs) (suc n) (suc i) lt = get_take xs n i (omega (arith, lt))

pub get_drop : (xs : List ℕ) (n i k : ℕ) → k ≡ n + i → slice_get (drop n xs) i ≡ slice_get xs k
get_drop xs zero i k is = let same : i ≡ k = omega (arith, is) in ap (λ (j : ℕ). slice_get xs j) same
get_drop [] (suc n) i k is = refl
get_drop (x ∷ xs) (suc n) i zero is = absurd (omega (arith, is))
get_drop (x ∷ xs) (suc n) i (suc k) is = get_drop xs n i k (omega (arith, is))

take_padded : (old : List ℕ) (n k m : ℕ) → n ≤ length old + k → m ≡ n - length old → take n (old ++ replicate k 0) ≡ take n old ++ replicate m 0
take_padded [] zero k m le m_is = let none : 0 ≡ m = omega (arith, m_is) in ap (λ (j : ℕ). replicate j 0) none
take_padded [] (suc n) k m le m_is = let all : suc n ≡ m = omega (arith, m_is) in take-replicate (suc n) k 0 (omega (arith, le)) ∙ ap (λ (j : ℕ). replicate j 0) all
take_padded (x ∷ old) zero k m le m_is = let none : 0 ≡ m = omega (arith, m_is) in ap (λ (j : ℕ). replicate j 0) none
take_padded (x ∷ old) (suc n) k m le m_is = ap (λ (l : List ℕ). x ∷ l) (take_padded old n k m (omega (arith, le)) (omega (arith, m_is)))

drop_padded : (old : List ℕ) (n k : ℕ) → k ≤ n - length old → drop n (old ++ replicate k 0) ≡ drop n old
drop_padded [] n k le = drop_all n (replicate k 0) (omega (arith, le, length-replicate {A = ℕ} k 0)) ∙ sym (drop_all n [] (omega arith))
drop_padded (x ∷ old) zero k le =
    let none : k ≡ 0 = omega (arith, le) in
    ap (λ (j : ℕ). (x ∷ old) ++ replicate j 0) none ∙ append-nil (x ∷ old)
drop_padded (x ∷ old) (suc n) k le = drop_padded old n k (omega (arith, le))

size_of : (old bytes : List ℕ) (at : ℕ) (b : ℕ) → length (overwritten old at (b ∷ bytes)) ≡ max (length old) (at + length (b ∷ bytes))
size_of old bytes at b =
    let tail : List ℕ = drop (at + length (b ∷ bytes)) old in
    let zeros : List ℕ = replicate (at - length old) 0 in
    omega (arith, length-append (take at old) (zeros ++ (b ∷ bytes ++ tail)), length-append zeros (b ∷ bytes ++ tail), length-append (b ∷ bytes) tail, length-take at old, length-replicate {A = ℕ} (at - length old) 0, length-drop (at + length (b ∷ bytes)) old)

pub length_overwritten : (old bytes : List ℕ) (at : ℕ) → 0 < length bytes → length (overwritten old at bytes) ≡ max (length old) (at + length bytes)
length_overwritten old [] at some = absurd (omega (arith, some))
length_overwritten old (b ∷ bytes) at some = size_of old bytes at b

-- written in place, once the bytes reach far enough
pub in_place : (old grown now bytes : List ℕ) (at k size : ℕ) → 0 < length bytes → k ≡ length bytes → now ≡ bytes → size ≡ max (length old) (at + length bytes) → grown ≡ take size old ++ replicate (size - length old) 0
    → take at grown ++ (now ++ drop k (drop at grown)) ≡ overwritten old at bytes
in_place old grown now [] at k size some k_is now_is size_is grown_is = absurd (omega (arith, some))
in_place old grown now (b ∷ bs) at k size some k_is now_is size_is grown_is =
    let zeros : List ℕ = replicate (size - length old) 0 in
    let padded : grown ≡ old ++ zeros = grown_is ∙ ap (λ (l : List ℕ). l ++ zeros) (take_all size old (omega (arith, size_is))) in
    let front = take_padded old at (size - length old) (at - length old) (omega (arith, size_is)) refl in
    let following = drop_padded old (at + length (b ∷ bs)) (size - length old) (omega (arith, size_is)) in
    rw (drop-drop k at grown, padded, now_is, k_is, front, following, append_assoc)

pub no_shorter : (old bytes : List ℕ) (at : ℕ) → length old ≤ length (overwritten old at bytes)
no_shorter old [] at = omega arith
no_shorter old (b ∷ bytes) at = omega (arith, size_of old bytes at b)

pub elsewhere : (old bytes : List ℕ) (at i : ℕ) → i < length old → (i < at) ⊎ (at + length bytes ≤ i) → slice_get (overwritten old at bytes) i ≡ slice_get old i
elsewhere old [] at i lt out = refl
elsewhere old (b ∷ bytes) at i lt (inl before) =
    get_left (take at old) _ i (omega (arith, before, lt, length-take at old)) ∙ get_take old at i before
elsewhere old (b ∷ bytes) at i lt (inr following) =
    let tail = drop (at + length (b ∷ bytes)) old in
    let n = i - (at + length (b ∷ bytes)) in
    get_right (take at old) (replicate (at - length old) 0 ++ (b ∷ bytes ++ tail)) i (length (b ∷ bytes) + n) (omega (arith, following, lt, length-take at old))
    ∙ get_right (replicate (at - length old) 0) (b ∷ bytes ++ tail) (length (b ∷ bytes) + n) (length (b ∷ bytes) + n) (omega (arith, following, lt, length-replicate {A = ℕ} (at - length old) 0))
    ∙ get_right (b ∷ bytes) tail (length (b ∷ bytes) + n) n refl
    ∙ get_drop old (at + length (b ∷ bytes)) n i (omega (arith, following))

either_false : (a b : Bool) → a || b ≡ false → (a ≡ false) × (b ≡ false)
either_false a b e = grind (arith, nat_tests, e)

outside : (at i : ℕ) (bytes : List ℕ) (written : List Range) → is_within (range_of at bytes ∷ written) i ≡ false → (i < at) ⊎ (at + length bytes ≤ i)
outside at i bytes written out = grind (arith, nat_tests, out)

-- the written bytes are those of a write
pub wrote : (at : ℕ) (bytes : List ℕ) (disk : Present) → WritesWithin at bytes disk (written_at at bytes disk)
wrote at bytes disk = grind (arith, no_shorter, elsewhere)

-- as it reads it stays an image
pub wrote_reads : (at : ℕ) (bytes : List ℕ) (disk : Present) → IsImage disk disk.read → IsImage (written_at at bytes disk) (written_at at bytes disk).read
wrote_reads at bytes disk image = grind (arith, no_shorter, elsewhere, outside, either_false)
