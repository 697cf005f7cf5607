-- A half that is selected puts its content in place of the other's.
use Rattle.std.proofs.Common.{◌≡◌, ◌⊎◌, inl, inr, ℕ, zero, suc, ◌+◌, ◌<◌, ◌≤◌, List, [], ◌∷◌, ◌++◌, length, drop, refl, sym, ◌∙◌, ap, subst, arith, append_assoc, length-append, ◌-◌, ◌%◌, false, slice_get}
use Rattle.std.specs.Int.{w64, to_be_bytes}
use Rattle.std.proofs.lemmas.List.{append-nil}
use Rattle.std.proofs.lemmas.Bool.Decides.{nat_tests}
use Rattle.coord_disk.specs.Model.Present.{Torn, is_within, overwritten, range_of}
use Rattle.coord_disk.proofs.TornWrites.{begins_but_hole, length_padded, overwritten_after, overwritten_inside, overwritten_torn, padded, torn_byte}
use Rattle.coord_journal.specs.Facade.{Content, IsEitherText, IsTextAt, TornInTurn, half_front, half_start, magic, sized, without_batch}
use Rattle.coord_journal.specs.declared.layout.TheConstants.{MAX_SNAPSHOT}
use Rattle.coord_journal.proofs.Appended.{lead, lead_push, length_sized, respelled, torn_after}

-- a text is the same after any selector that names its half
reselected : {s : ℕ} {tail : List ℕ} {content : Content} {half_size half used : ℕ} → IsTextAt (s ∷ tail) content half_size half used → (x : ℕ) (more : List ℕ) → x % 2 ≡ half → IsTextAt (x ∷ (tail ++ more)) content half_size half used
reselected {tail = tail} {content = content} {half_size = half_size} text x more named =
    let front : List ℕ = half_front content.version content.snapshot text.holds.opened in
    respelled text (x ∷ (tail ++ more)) x text.skipped (text.holds.following ++ more) named refl
    (ap (λ (l : List ℕ). x ∷ (drop 1 l ++ more)) text.header.spelled
    ∙ sym (lead_push x half_size text.skipped text.half_bytes more)
    ∙ ap (λ (l : List ℕ). lead x half_size text.skipped l) (ap (λ (l : List ℕ). l ++ more) text.holds.spelled ∙ append_assoc front (0 ∷ text.holds.following) more))

-- there are two halves
one_of_two : (p h : ℕ) → p < 2 → h < 2 → (p ≡ h) ⊎ (p ≡ 1 - h)
one_of_two p h h1 h2 = grind (arith, nat_tests, h1, h2)

module _ {bytes : List ℕ} {content : Content} {half_size half used : ℕ} (text : IsTextAt bytes content half_size half used) (version : ℕ) (snapshot : List ℕ) (short : length snapshot ≤ MAX_SNAPSHOT) where
  abbrev head : List ℕ
  head = (text.selector ∷ magic) ++ to_be_bytes w64 half_size

  abbrev front : List ℕ
  front = half_front content.version content.snapshot text.holds.opened

  abbrev after_header : List ℕ
  after_header = text.skipped ++ text.half_bytes

  split : bytes ≡ head ++ after_header
  split = text.header.spelled ∙ sym (append_assoc (text.selector ∷ magic) (to_be_bytes w64 half_size) after_header)

  length_head : length head ≡ 17
  length_head = length-append (text.selector ∷ magic) (to_be_bytes w64 half_size)

  abbrev pub block : List ℕ
  block = half_front version snapshot [] ++ 0 ∷ []

  pub length_block : length block ≡ 6 + length snapshot
  length_block = omega (arith, length-append (half_front version snapshot []) (0 ∷ []), length-append (sized snapshot) [], length_sized snapshot)

  abbrev start : ℕ
  start = half_start (1 - half) half_size

  -- a write before the selected half leaves the text, however it is torn
  torn_before : (new c : List ℕ) → length new ≤ length text.skipped → Torn bytes 17 new c → IsTextAt c content half_size half used
  torn_before new c few image =
      let following : List ℕ = text.holds.following in
      let whole : bytes ≡ head ++ (text.skipped ++ ((front ++ 0 ∷ []) ++ following)) = split ∙ ap (λ (l : List ℕ). head ++ (text.skipped ++ l)) (text.holds.spelled ∙ sym (append_assoc front (0 ∷ []) following)) in
      let long : length bytes ≡ 17 + length text.skipped + length (front ++ 0 ∷ []) + length following =
      omega (arith, ap length whole, length_head, length-append head (text.skipped ++ ((front ++ 0 ∷ []) ++ following)), length-append text.skipped ((front ++ 0 ∷ []) ++ following), length-append (front ++ 0 ∷ []) following) in
      let found = begins_but_hole head text.skipped (front ++ 0 ∷ []) following c
      (λ i lt out. image.kept i (omega (arith, lt, long, length_head)) (outside i out) ∙ ap (λ (l : List ℕ). slice_get l i) whole)
      (omega (arith, long, length_head, image.no_shorter)) in
      respelled text c text.selector found.0 found.1 text.selected found.2
      (found.3
      ∙ ap (λ (l : List ℕ). head ++ (found.0 ++ l)) (append_assoc front (0 ∷ []) found.1)
      ∙ append_assoc (text.selector ∷ magic) (to_be_bytes w64 half_size) (found.0 ++ (front ++ 0 ∷ found.1)))
    where
      outside : (i : ℕ) → (i < length head) ⊎ (length head + length text.skipped ≤ i) → is_within (range_of 17 new ∷ []) i ≡ false
      outside i (inl lt) = let low : i < 17 = omega (arith, lt, length_head) in grind (arith, nat_tests)
      outside i (inr le) = let high : 17 + length new ≤ i = omega (arith, le, length_head, few) in grind (arith, nat_tests)

  module _ (at : ℕ) (at_is : at ≡ 17 + start) where
    -- the first write leaves the text, however it is torn
    kept : (c : List ℕ) → Torn bytes at block c → IsTextAt c content half_size half used
    kept c torn = by_half half refl
      where
        by_half : (h : ℕ) → half ≡ h → IsTextAt c content half_size half used
        by_half zero is =
            let place : at ≡ 17 + half_size = at_is ∙ ap (λ (h : ℕ). 17 + half_start (1 - h) half_size) is ∙ omega arith in
            let none : half_start half half_size ≡ 0 = ap (λ (h : ℕ). half_start h half_size) is ∙ omega arith in
            torn_after text block at (omega (arith, place, none, text.fits)) c torn
        by_half (suc zero) is =
            let place : at ≡ 17 = at_is ∙ ap (λ (h : ℕ). 17 + half_start (1 - h) half_size) is ∙ omega arith in
            let all : length text.skipped ≡ half_size = text.skips ∙ ap (λ (h : ℕ). half_start h half_size) is ∙ omega arith in
            torn_before block c (omega (arith, all, length_block, short, text.header.size.smallest)) (rw (sym place) torn)
        by_half (suc (suc n)) is = absurd (omega (arith, is, text.selected))

    abbrev staged : List ℕ
    staged = overwritten bytes at block

    abbrev following : List ℕ
    following = drop (start + length block) after_header

    -- all of it but the selector, once the half is written
    abbrev tail : List ℕ
    tail = magic ++ (to_be_bytes w64 half_size ++ (padded start after_header ++ (block ++ following)))

    staged_is : staged ≡ text.selector ∷ tail
    staged_is =
        ap (λ (l : List ℕ). overwritten l at block) split
        ∙ overwritten_inside head after_header block at start (omega (arith, at_is, length_head)) (omega (arith, length_block))
        ∙ append_assoc (text.selector ∷ magic) (to_be_bytes w64 half_size) (padded start after_header ++ (block ++ following))

    new_text : (x : ℕ) (more : List ℕ) → x % 2 ≡ 1 - half → IsTextAt (x ∷ (tail ++ more)) (without_batch version snapshot) half_size (1 - half) (6 + length snapshot)
    new_text x more named = record {
      selector = x;
      skipped = padded start after_header;
      half_bytes = block ++ (following ++ more);
      header = record { spelled = simp append_assoc; size = text.header.size };
      selected = named;
      skips = length_padded start after_header;
      holds = record {
        opened = [];
        following = following ++ more;
        spelled = append_assoc (half_front version snapshot []) (0 ∷ []) (following ++ more);
        snapshot = short;
        batches = refl;
        used_is = omega (arith, length-append (sized snapshot) [], length_sized snapshot);
      };
      fits = omega (arith, short, text.header.size.smallest);
    }

    -- whatever the selector is, it names one of the two
    named : (c more : List ℕ) (x : ℕ) → c ≡ x ∷ (tail ++ more) → IsEitherText content (without_batch version snapshot) c
    named c more x is =
        let old = subst (λ (l : List ℕ). IsTextAt l content half_size half used) staged_is (kept staged (overwritten_torn bytes block at)) in
        either (one_of_two (x % 2) half (omega arith) (omega (arith, text.selected))) old
      where
        either : (x % 2 ≡ half) ⊎ (x % 2 ≡ 1 - half) → IsTextAt (text.selector ∷ tail) content half_size half used → IsEitherText content (without_batch version snapshot) c
        either (inl even) old =
            inl (half_size, half, used, rw is (reselected old x more even))
        either (inr odd) old =
            inr (half_size, 1 - half, 6 + length snapshot, rw is (new_text x more odd))

    -- what a crash leaves of a replace
    pub replace_torn : (y : ℕ) (c : List ℕ) → TornInTurn bytes at block 0 (y ∷ []) c → IsEitherText content (without_batch version snapshot) c
    replace_torn y c (inl one) = inl (half_size, half, used, kept c one)
    replace_torn y c (inr other) =
        let found = torn_byte [] tail text.selector y 0 refl c (subst (λ (l : List ℕ). Torn l 0 (y ∷ []) c) staged_is other) in
        named c found.1 found.0 found.2

    -- the bytes after it is done
    pub replaced : (y other total : ℕ) (c : List ℕ) → other ≡ 1 - half → total ≡ 6 + length snapshot → y % 2 ≡ other → c ≡ overwritten staged 0 (y ∷ []) → IsTextAt c (without_batch version snapshot) half_size other total
    replaced y other total c other_is total_is names is =
        let new = new_text y [] (names ∙ other_is) in
        let same : c ≡ y ∷ (tail ++ []) =
        is
        ∙ ap (λ (l : List ℕ). overwritten l 0 (y ∷ [])) staged_is
        ∙ overwritten_after [] (text.selector ∷ tail) (y ∷ []) 0 refl (omega arith)
        ∙ ap (λ (l : List ℕ). y ∷ l) (sym (append-nil tail)) in
        rw total_is
        (rw other_is
        (rw same new))
