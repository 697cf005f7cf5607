-- A gate that is opened adds its batch to the text.
use Rattle.std.proofs.Common.{◌≡◌, ◌≢◌, inl, inr, ℕ, zero, suc, ◌+◌, ◌<◌, ◌≤◌, List, [], ◌∷◌, ◌++◌, length, drop, ◌%◌, subst, refl, sym, ◌∙◌, ap, arith, append_assoc, length-append, slice_get}
use Rattle.std.specs.Int.{w32, w64, to_be_bytes}
use Rattle.std.proofs.lemmas.List.{append-nil}
use Rattle.std.proofs.lemmas.Bool.Decides.{nat_tests}
use Rattle.coord_disk.specs.Model.Present.{Torn, overwritten}
use Rattle.coord_disk.proofs.TornWrites.{begins, overwritten_after, torn_byte}
use Rattle.coord_journal.specs.Facade.{Content, IsEitherText, IsOpened, IsTextAt, TornInTurn, gate_place, half_front, magic, size_of, sized, with_batch}
use Rattle.coord_journal.specs.declared.layout.TheConstants.{MAX_BODY}

pub opened_push : (batches : List (List ℕ)) (batch opened : List ℕ) (gate : ℕ) → IsOpened batches opened → gate ≢ 0 → length batch ≤ MAX_BODY → IsOpened (batches ++ batch ∷ []) (opened ++ gate ∷ (sized batch ++ []))
opened_push [] batch opened gate none is_open short = (gate, [], is_open, (short, ap (λ (l : List ℕ). l ++ gate ∷ (sized batch ++ [])) none), refl)
opened_push (b ∷ batches) batch opened gate some is_open short = (
  some.0,
  some.1 ++ gate ∷ (sized batch ++ []),
  some.2,
  (
    some.3.0,
    ap (λ (l : List ℕ). l ++ gate ∷ (sized batch ++ [])) some.3.1 ∙ ap (λ (l : List ℕ). some.0 ∷ l) (append_assoc (sized b) some.1 (gate ∷ (sized batch ++ []))),
  ),
  opened_push batches batch some.1 gate some.4 is_open short,
)

-- one batch more takes its own size
pub size_push : (batches : List (List ℕ)) (batch : List ℕ) → size_of (batches ++ batch ∷ []) ≡ size_of batches + (length batch + 5)
size_push [] batch = omega arith
size_push (b ∷ bs) batch = omega (arith, size_push bs batch)

pub front_push : (version : ℕ) (snapshot opened more : List ℕ) → half_front version snapshot (opened ++ more) ≡ half_front version snapshot opened ++ more
front_push version snapshot opened more = ap (λ (l : List ℕ). version ∷ l) (sym (append_assoc (sized snapshot) opened more))

-- the bytes in front of the selected half, and these of that half
abbrev pub lead : ℕ → ℕ → List ℕ → List ℕ → List ℕ
lead selector half_size skipped front = (selector ∷ magic) ++ (to_be_bytes w64 half_size ++ (skipped ++ front))

pub lead_push : (selector half_size : ℕ) (skipped front more : List ℕ) → lead selector half_size skipped (front ++ more) ≡ lead selector half_size skipped front ++ more
lead_push selector half_size skipped front more = simp append_assoc

pub length_sized : (batch : List ℕ) → length (sized batch) ≡ 4 + length batch
length_sized batch = length-append (to_be_bytes w32 (length batch)) batch

pub length_block : (batch : List ℕ) → length (sized batch ++ 0 ∷ []) ≡ 5 + length batch
length_block batch = omega (arith, length-append (sized batch) (0 ∷ []), length_sized batch)

module _ {bytes : List ℕ} {content : Content} {half_size half used : ℕ} (text : IsTextAt bytes content half_size half used) where
  abbrev front : List ℕ
  front = half_front content.version content.snapshot text.holds.opened

  -- all bytes up to the closed gate
  abbrev before : List ℕ
  before = lead text.selector half_size text.skipped front

  split : bytes ≡ before ++ 0 ∷ text.holds.following
  split = text.header.spelled ∙ ap (λ (l : List ℕ). lead text.selector half_size text.skipped l) text.holds.spelled ∙ lead_push text.selector half_size text.skipped front (0 ∷ text.holds.following)

  -- that gate is at the end of the used bytes
  gate : length before ≡ gate_place half_size half used
  gate = omega (arith, text.holds.used_is, text.skips, length-append (text.selector ∷ magic) (to_be_bytes w64 half_size ++ (text.skipped ++ front)), length-append (to_be_bytes w64 half_size) (text.skipped ++ front), length-append text.skipped front)

  -- The same text: by another selector of its half, with other bytes in front of that half, or after its closed gate.
  pub respelled : (c : List ℕ) (selector : ℕ) (skipped following : List ℕ) → selector % 2 ≡ half → length skipped ≡ length text.skipped → c ≡ lead selector half_size skipped (half_front content.version content.snapshot text.holds.opened ++ 0 ∷ following) → IsTextAt c content half_size half used
  respelled c selector skipped following selected skips is = record {
    selector = selector;
    skipped = skipped;
    half_bytes = front ++ 0 ∷ following;
    header = record { spelled = is; size = text.header.size };
    selected = selected;
    skips = skips ∙ text.skips;
    holds = record { opened = text.holds.opened; following = following; spelled = refl; snapshot = text.holds.snapshot; batches = text.holds.batches; used_is = text.holds.used_is };
    fits = text.fits;
  }

  closed : (c rest : List ℕ) → c ≡ before ++ 0 ∷ rest → IsTextAt c content half_size half used
  closed c rest is = respelled c text.selector text.skipped rest text.selected refl (is ∙ sym (lead_push text.selector half_size text.skipped front (0 ∷ rest)))

  -- a write after the text leaves it, however the write is torn
  pub torn_after : (new : List ℕ) (at : ℕ) → gate_place half_size half used < at → (c : List ℕ) → Torn bytes at new c → IsTextAt c content half_size half used
  torn_after new at is c image =
      let place : length (before ++ 0 ∷ []) ≤ at = omega (arith, is, gate, length-append before (0 ∷ [])) in
      let whole : bytes ≡ (before ++ 0 ∷ []) ++ text.holds.following = split ∙ sym (append_assoc before (0 ∷ []) text.holds.following) in
      let long : length (before ++ 0 ∷ []) ≤ length bytes = omega (arith, ap length whole, length-append (before ++ 0 ∷ []) text.holds.following) in
      let rest = begins (before ++ 0 ∷ []) text.holds.following c (λ i lt. image.kept i (omega (arith, lt, long)) (let low : i < at = omega (arith, lt, place) in grind (arith, nat_tests)) ∙ ap (λ (l : List ℕ). slice_get l i) whole) in
      closed c rest.0 (rest.1 ∙ append_assoc before (0 ∷ []) rest.0)

module _ {bytes : List ℕ} {content : Content} {half_size half used : ℕ} (text : IsTextAt bytes content half_size half used) (batch : List ℕ) (short : length batch ≤ MAX_BODY) (room : used + 5 + length batch ≤ half_size) where
  abbrev lead_of : List ℕ
  lead_of = before text

  abbrev more : ℕ → List ℕ
  more open_gate = open_gate ∷ (sized batch ++ [])

  abbrev front_of : List ℕ
  front_of = half_front content.version content.snapshot text.holds.opened

  pushed : (open_gate : ℕ) → lead text.selector half_size text.skipped (half_front content.version content.snapshot (text.holds.opened ++ more open_gate)) ≡ lead_of ++ more open_gate
  pushed open_gate =
      ap (λ (l : List ℕ). lead text.selector half_size text.skipped l) (front_push content.version content.snapshot text.holds.opened (more open_gate))
      ∙ lead_push text.selector half_size text.skipped front_of (more open_gate)

  length_more : (open_gate : ℕ) → length (more open_gate) ≡ 5 + length batch
  length_more open_gate = omega (arith, length_sized batch, ap length (append-nil (sized batch)))

  -- after an open gate the block adds the batch
  pub opens : (c rest : List ℕ) (open_gate total : ℕ) → open_gate ≢ 0 → total ≡ used + 5 + length batch → c ≡ lead_of ++ open_gate ∷ ((sized batch ++ 0 ∷ []) ++ rest) → IsTextAt c (with_batch content batch) half_size half total
  opens c rest open_gate total is_open total_is is =
      let opened : List ℕ = text.holds.opened ++ more open_gate in
      let next : List ℕ = half_front content.version content.snapshot opened in
      record {
        selector = text.selector;
        skipped = text.skipped;
        half_bytes = next ++ 0 ∷ rest;
        header = record {
          spelled = is ∙ ap (λ (l : List ℕ). lead_of ++ open_gate ∷ l) (append_assoc (sized batch) (0 ∷ []) rest ∙ ap (λ (l : List ℕ). l ++ 0 ∷ rest) (sym (append-nil (sized batch))))
              ∙ sym (append_assoc lead_of (more open_gate) (0 ∷ rest)) ∙ ap (λ (l : List ℕ). l ++ 0 ∷ rest) (sym (pushed open_gate))
              ∙ sym (lead_push text.selector half_size text.skipped next (0 ∷ rest));
          size = text.header.size;
        };
        selected = text.selected;
        skips = text.skips;
        holds = record {
          opened = opened;
          following = rest;
          spelled = refl;
          snapshot = text.holds.snapshot;
          batches = opened_push content.batches batch text.holds.opened open_gate text.holds.batches is_open short;
          used_is = omega (arith, total_is, text.holds.used_is, ap length (front_push content.version content.snapshot text.holds.opened (more open_gate)), length-append front_of (more open_gate), length_more open_gate);
        };
        fits = omega (arith, room, total_is);
      }

  abbrev pub block : List ℕ
  block = sized batch ++ 0 ∷ []

  abbrev rest : List ℕ
  rest = drop (length block) text.holds.following

  place_is : length lead_of ≡ gate_place half_size half used
  place_is = gate text

  module _ (at place : ℕ) (at_is : at ≡ gate_place half_size half used + 1) (gate_is : place ≡ gate_place half_size half used) where
    -- the block is written after the gate
    staged : overwritten bytes at block ≡ lead_of ++ 0 ∷ (block ++ rest)
    staged =
        ap (λ (l : List ℕ). overwritten l at block) (split text ∙ sym (append_assoc lead_of (0 ∷ []) text.holds.following))
        ∙ overwritten_after (lead_of ++ 0 ∷ []) text.holds.following block at (omega (arith, at_is, place_is, length-append lead_of (0 ∷ []))) (omega (arith, length-append (sized batch) (0 ∷ [])))
        ∙ append_assoc lead_of (0 ∷ []) (block ++ rest)

    either : (c : List ℕ) (x : ℕ) (following : List ℕ) → c ≡ lead_of ++ x ∷ (block ++ following) → IsEitherText content (with_batch content batch) c
    either c zero following is = inl (half_size, half, used, closed text c (block ++ following) is)
    either c (suc x) following is = inr (half_size, half, used + 5 + length batch, opens c following (suc x) (used + 5 + length batch) (omega arith) refl is)

    -- What a crash leaves of an append. In each outcome of the second write the block stands whole, whatever the gate is.
    pub append_torn : (c : List ℕ) → TornInTurn bytes at block place (1 ∷ []) c → IsEitherText content (with_batch content batch) c
    append_torn c (inl one) = inl (half_size, half, used, torn_after text block at (omega (arith, at_is)) c one)
    append_torn c (inr other) =
        let found = torn_byte lead_of (block ++ rest) 0 1 place (gate_is ∙ sym place_is) c (subst (λ (l : List ℕ). Torn l place (1 ∷ []) c) staged other) in
        either c found.0 (rest ++ found.1) (found.2 ∙ ap (λ (l : List ℕ). lead_of ++ found.0 ∷ l) (append_assoc block rest found.1))

    -- the bytes after it is done
    pub appended : (c : List ℕ) (total : ℕ) → total ≡ used + 5 + length batch → c ≡ overwritten (overwritten bytes at block) place (1 ∷ []) → IsTextAt c (with_batch content batch) half_size half total
    appended c total total_is is =
        opens c rest 1 total (omega arith) total_is
        (is ∙ ap (λ (l : List ℕ). overwritten l place (1 ∷ [])) staged ∙ overwritten_after lead_of (0 ∷ (block ++ rest)) (1 ∷ []) place (omega (arith, gate_is, place_is)) (omega arith))
