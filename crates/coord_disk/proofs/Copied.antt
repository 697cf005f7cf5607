-- The elements after a part of one list was copied to the same place of another.
use Rattle.std.proofs.Common.{◌≡◌, ◌⊎◌, inl, inr, ℕ, ◌+◌, ◌-◌, ◌<◌, ◌≤◌, min, List, ◌++◌, length, take, drop, sym, ◌∙◌, ap, arith, length-append, length-take, length-drop, slice_get, false, nat_le, nat_lt, ◌&&◌}
use Rattle.std.proofs.lemmas.Bool.{cases_lt}
use Rattle.std.proofs.lemmas.Bool.Decides.{nat_tests}
use Rattle.coord_disk.specs.Model.Present.{Present, IsImage, is_within}
use Rattle.coord_disk.proofs.Overwritten.{get_left, get_right, get_take, get_drop}

module _ (to from : List ℕ) (start stop : ℕ) (size : length to ≡ length from) (order : start ≤ stop) (within : stop ≤ length from) where
  -- the copy
  abbrev pub with_part : List ℕ
  with_part = take start to ++ (take (stop - start) (drop start from) ++ drop (stop - start) (drop start to))

  front_size : length (take start to) ≡ start
  front_size = omega (arith, length-take start to, size, order, within)

  part_size : length (take (stop - start) (drop start from)) ≡ stop - start
  part_size = omega (arith, length-take (stop - start) (drop start from), length-drop start from, order, within)

  pub copied_size : length with_part ≡ length from
  copied_size = omega (arith, front_size, part_size, size, order, within, length-append (take start to) (take (stop - start) (drop start from) ++ drop (stop - start) (drop start to)), length-append (take (stop - start) (drop start from)) (drop (stop - start) (drop start to)), length-drop (stop - start) (drop start to), length-drop start to)

  -- the two agree in the part, and elsewhere where they did
  pub copied : (i : ℕ) → ((i < start) ⊎ (stop ≤ i) → slice_get to i ≡ slice_get from i) → slice_get with_part i ≡ slice_get from i
  copied i elsewhere = at_place (cases_lt i start) (cases_lt i stop)
    where
      at_place : (i < start) ⊎ (start ≤ i) → (i < stop) ⊎ (stop ≤ i) → slice_get with_part i ≡ slice_get from i
      at_place (inl before) _ = get_left (take start to) _ i (omega (arith, front_size, before)) ∙ get_take to start i before ∙ elsewhere (inl before)
      at_place (inr from_start) (inl before) =
          let n = i - start in
          get_right (take start to) _ i n (omega (arith, front_size, from_start))
          ∙ get_left (take (stop - start) (drop start from)) _ n (omega (arith, part_size, from_start, before))
          ∙ get_take (drop start from) (stop - start) n (omega (arith, from_start, before))
          ∙ get_drop from start n i (omega (arith, from_start))
      at_place (inr from_start) (inr following) =
          let n = i - stop in
          get_right (take start to) _ i (stop - start + n) (omega (arith, front_size, order, following))
          ∙ get_right (take (stop - start) (drop start from)) _ (stop - start + n) n (omega (arith, part_size))
          ∙ get_drop (drop start to) (stop - start) n (stop - start + n) (omega arith)
          ∙ get_drop to start (stop - start + n) i (omega (arith, order, following))
          ∙ elsewhere (inr following)

-- a place outside the part that lies before the end lies outside the range
pub apart : (at len size start stop i : ℕ) → start ≡ min size at → stop ≡ start + min len (size - start) → i < size → (i < start) ⊎ (stop ≤ i) → (nat_le at i && nat_lt i (at + len)) ≡ false
apart at len size start stop i start_is stop_is lt out = grind (arith, nat_tests, start_is, stop_is, lt, out)

-- the synced bytes once they are as long as the current ones
pub grown : (disk : Present) (read tail : List ℕ) → IsImage disk read → tail ≡ drop (length disk.synced) read → IsImage (record disk { synced = disk.synced ++ tail }) read
grown disk read tail image is = record {
  no_shorter = omega (arith, length-append disk.synced tail, ap length is, length-drop (length disk.synced) read, image.no_shorter);
  no_longer = image.no_longer;
  kept = λ i lt out. here i out (cases_lt i (length disk.synced));
}
  where
    here : (i : ℕ) → is_within disk.written i ≡ false → (i < length disk.synced) ⊎ (length disk.synced ≤ i) → slice_get read i ≡ slice_get (disk.synced ++ tail) i
    here i out (inl lt) = image.kept i lt out ∙ sym (get_left disk.synced tail i lt)
    here i out (inr following) =
        let n = i - length disk.synced in
        sym (get_right disk.synced tail i n (omega (arith, following)) ∙ ap (λ (l : List ℕ). slice_get l n) is ∙ get_drop read (length disk.synced) n i (omega (arith, following)))
