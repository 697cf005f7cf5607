-- What a loop over items keeps: the rest of the reading gives what all of it gives.
use Rattle.std.proofs.Common.{◌≡◌, ℕ, suc, ◌+◌, ◌-◌, ◌<◌, ◌≤◌, List, [], ◌∷◌, ◌++◌, length, Ok, sym, ap, ◌∙◌, arith}
use Rattle.std.proofs.lemmas.List.{length-append}
use Rattle.coord_batch.specs.declared.fault.ReadError.{ReadError}
use Rattle.coord_batch.specs.Format.{Format, Read, ◌>>=◌, items_at}
use Rattle.coord_batch.specs.Reading.{FailsToRead}

module _ {A : Type 0} (item : List A → Format A) (total : Read (List A)) (front : List A) (count i : ℕ) (bytes : List ℕ) where
  -- an item is read
  pub one_more : (x : A) (left : List ℕ) → i < count → (item front).read bytes ≡ Ok (x, left) → items_at item (count - i) front bytes ≡ total → items_at item (count - (i + 1)) (front ++ x ∷ []) left ≡ total
  unfolding items_at
  one_more x left below read so_far =
      let k : count - i ≡ suc (count - (i + 1)) = omega arith in
      sym (ap (λ r. r >>= λ y. items_at item (count - (i + 1)) (front ++ y.0 ∷ []) y.1) read) ∙ sym (ap (λ n. items_at item n front bytes) k) ∙ so_far

  -- an item isn't read
  pub cut_short : (e : ReadError) → i < count → FailsToRead e ((item front).read bytes) → items_at item (count - i) front bytes ≡ total → FailsToRead e total
  unfolding items_at
  cut_short e h1 h2 h3 = grind arith

  -- all are read
  pub all_read : count ≤ i → items_at item (count - i) front bytes ≡ total → total ≡ Ok (front, bytes)
  unfolding items_at
  all_read done so_far = grind arith

-- an item more at the end
pub len_more : {A : Type 0} (xs : List A) (x : A) (most : ℕ) → length xs ≤ most → length (xs ++ x ∷ []) ≤ most + 1
len_more xs x most few = omega (arith, length-append xs (x ∷ []))
