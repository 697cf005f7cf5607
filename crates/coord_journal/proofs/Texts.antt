-- A text is a header and a half.
use Rattle.std.proofs.Common.{◌≡◌, inl, inr, ℕ, ◌+◌, ◌<◌, ◌≤◌, ◌^◌, List, [], ◌∷◌, ◌++◌, length, take, drop, get_or, refl, sym, ◌∙◌, ap, arith, length-append, length-take, length-drop, ◌%◌, min}
use Rattle.std.proofs.lemmas.Bool.Decides.{nat_tests}
use Rattle.std.specs.Int.{w64, to_be_bytes, from_be_bytes}
use Rattle.std.proofs.lemmas.Nat.{from_be_bytes-to_be_bytes_8}
use Rattle.std.proofs.lemmas.List.{take_at, drop_at, take-append-drop}
use Rattle.coord_journal.specs.Facade.{BeginsWithHeader, Content, HasHeader, IsHalf, IsHalfSize, IsReadFault, IsText, IsTextAt, RefusesOpen, formatted, half_front, half_start, magic, sized, used_by, without_batch}
use Rattle.coord_journal.specs.declared.layout.TheConstants.{MAX_SNAPSHOT}
use Rattle.coord_journal.specs.declared.fault.JournalFault.{JournalFault}
use Rattle.coord_journal.specs.declared.fault.JournalFault.TheVariants.{BadRecord}
use Rattle.coord_journal.proofs.Appended.{length_sized}
use Rattle.coord_journal.proofs.Halves.{half_cut, half_long, half_same, half_used, half_whole}

-- the bytes determine the header
selector_read : (bytes : List ℕ) (selector half_size : ℕ) (rest : List ℕ) → HasHeader bytes selector half_size rest → get_or bytes 0 0 ≡ selector
selector_read bytes selector half_size rest header = ap (λ (l : List ℕ). get_or l 0 0) header.spelled

pub size_read : (bytes : List ℕ) (selector half_size : ℕ) (rest : List ℕ) → half_size < 2 ^ 64 → bytes ≡ (selector ∷ magic) ++ (to_be_bytes w64 half_size ++ rest) → from_be_bytes w64 (take 8 (drop 9 bytes)) ≡ half_size
size_read bytes selector half_size rest small is =
    ap (λ (l : List ℕ). from_be_bytes w64 (take 8 (drop 9 l))) is
    ∙ ap (λ (l : List ℕ). from_be_bytes w64 l) (take_at (to_be_bytes w64 half_size) rest 8 refl)
    ∙ from_be_bytes-to_be_bytes_8 half_size small

pub rest_read : (bytes : List ℕ) (selector half_size : ℕ) (rest : List ℕ) → bytes ≡ (selector ∷ magic) ++ (to_be_bytes w64 half_size ++ rest) → drop 17 bytes ≡ rest
rest_read bytes selector half_size rest is = ap (λ (l : List ℕ). drop 17 l) is ∙ drop_at (to_be_bytes w64 half_size) rest 8 refl

same_half_size : (bytes : List ℕ) (s t m n : ℕ) (rest other : List ℕ) → HasHeader bytes s m rest → HasHeader bytes t n other → m ≡ n
same_half_size bytes s t m n rest other h1 h2 = grind (arith, nat_tests, h1, h2)

same_selector : (bytes : List ℕ) (s t m n : ℕ) (rest other : List ℕ) → HasHeader bytes s m rest → HasHeader bytes t n other → s ≡ t
same_selector bytes s t m n rest other here there = sym (selector_read bytes s m rest here) ∙ selector_read bytes t n other there

same_rest : (bytes : List ℕ) (s t m n : ℕ) (rest other : List ℕ) → HasHeader bytes s m rest → HasHeader bytes t n other → rest ≡ other
same_rest bytes s t m n rest other here there = sym (rest_read bytes s m rest here.spelled) ∙ rest_read bytes t n other there.spelled

module _ (bytes : List ℕ) (content : Content) (half_size half used : ℕ) (text : IsTextAt bytes content half_size half used) where
  abbrev pub after_header : List ℕ
  after_header = text.skipped ++ text.half_bytes

  pub text_header : HasHeader bytes text.selector half_size after_header
  text_header = text.header

  pub text_half : IsHalf (drop (half_start half half_size) after_header) content used
  text_half = rw (drop_at text.skipped text.half_bytes (half_start half half_size) text.skips) text.holds

  -- whatever header was read, it is that of the text
  pub half_in : (selector size other : ℕ) (rest : List ℕ) → selector % 2 ≡ other → HasHeader bytes selector size rest → IsHalf (drop (half_start other size) rest) content used
  half_in selector size other rest named header = grind (arith, same_rest, text_header, same_selector, same_half_size, text_half)

  pub fits_in : (selector size : ℕ) (rest : List ℕ) → HasHeader bytes selector size rest → used ≤ size
  fits_in selector size rest header = omega (arith, text.fits, same_half_size bytes text.selector selector half_size size after_header rest text_header header)

-- bytes are the text of one content at most
pub text_same : (bytes : List ℕ) (c d : Content) → IsText c bytes → IsText d bytes → c ≡ d
text_same bytes c d one other =
    let t = other.3 in
    half_same (drop (half_start other.1 other.0) (after_header bytes d other.0 other.1 other.2 t)) c d one.2 other.2
    (half_in bytes c one.0 one.1 one.2 one.3 t.selector other.0 other.1 (after_header bytes d other.0 other.1 other.2 t) t.selected (text_header bytes d other.0 other.1 other.2 t))
    (text_half bytes d other.0 other.1 other.2 t)

-- bytes are the text of a content in one half at most, of which so much is used
pub text_place : (bytes : List ℕ) (c d : Content) (m n h k u v : ℕ) → IsTextAt bytes c m h u → IsTextAt bytes d n k v → (m ≡ n) × (h ≡ k) × (u ≡ v)
text_place bytes c d m n h k u v one other =
    let front = after_header bytes c m h u one in
    let following = after_header bytes d n k v other in
    let here = text_header bytes c m h u one in
    let there = text_header bytes d n k v other in
    let content : c ≡ d = text_same bytes c d (m, h, u, one) (n, k, v, other) in (
      same_half_size bytes one.selector other.selector m n front following here there,
      sym one.selected ∙ ap (λ (s : ℕ). s % 2) (same_selector bytes one.selector other.selector m n front following here there) ∙ other.selected,
      half_used (drop (half_start h m) front) c u (text_half bytes c m h u one) ∙ ap used_by content ∙ sym (half_used (drop (half_start k n) following) d v (text_half bytes d n k v other)),
    )

module _ (bytes : List ℕ) (selector half_size half : ℕ) (rest : List ℕ) (header : HasHeader bytes selector half_size rest) (named : selector % 2 ≡ half) (start : ℕ) (starts : start ≡ half_start half half_size) where
  abbrev half_bytes : List ℕ
  half_bytes = drop start rest

  in_text : (content : Content) (text : IsText content bytes) → IsHalf half_bytes content text.2
  in_text content text =
      rw starts (half_in bytes content text.0 text.1 text.2 text.3 selector half_size half rest named header)

  -- there is no text if the half does not begin, or is refused
  pub cut_short : length rest < start → (content : Content) → IsText content bytes → ⊥
  cut_short short content text = grind (arith, nat_tests, short, text, length-drop start rest, in_text content text)

  pub refused : (n : ℕ) → n ≡ min half_size (length half_bytes) → ((content : Content) (used : ℕ) → IsHalf (take n half_bytes) content used → ⊥) → (content : Content) → IsText content bytes → ⊥
  refused n n_is bad content text =
      let h = in_text content text in
      let fits : text.2 ≤ n = omega (arith, n_is, half_long half_bytes content text.2 h, fits_in bytes content text.0 text.1 text.2 text.3 selector half_size rest header) in
      bad content text.2 (half_cut half_bytes content text.2 n h fits)

  -- a half that was read makes a text
  module _ (n used : ℕ) (content : Content) (within : start ≤ length rest) (few : n ≤ half_size) (read : IsHalf (take n half_bytes) content used) where
    whole : IsHalf half_bytes content used
    whole = half_whole half_bytes content used n read

    long : length (take start rest) ≡ start
    long = omega (arith, within, length-take start rest)

    pub made : IsTextAt bytes content half_size half used
    made = record {
      selector = selector;
      skipped = take start rest;
      half_bytes = half_bytes;
      header = record { spelled = header.spelled ∙ ap (λ (l : List ℕ). (selector ∷ magic) ++ (to_be_bytes w64 half_size ++ l)) (sym (take-append-drop start rest)); size = header.size };
      selected = named;
      skips = long ∙ starts;
      holds = whole;
      fits = omega (arith, few, half_long (take n half_bytes) content used read, length-take n half_bytes);
    }

-- a new journal
pub formatted_text : (half_size version : ℕ) (snapshot bytes : List ℕ) → IsHalfSize half_size → length snapshot ≤ MAX_SNAPSHOT → bytes ≡ formatted half_size version snapshot → IsText (without_batch version snapshot) bytes
formatted_text half_size version snapshot bytes size short is =
    let front : List ℕ = half_front version snapshot [] in (
      half_size,
      0,
      length front + 1,
      record {
        selector = 0;
        skipped = [];
        half_bytes = front ++ 0 ∷ [];
        header = record { spelled = is; size = size };
        selected = refl;
        skips = omega arith;
        holds = record { opened = []; following = []; spelled = refl; snapshot = short; batches = refl; used_is = refl };
        fits = omega (arith, size.smallest, short, length-append (sized snapshot) [], length_sized snapshot);
      },
    )

-- the parts of bytes that are long enough for a header
pub header_parts : (bytes : List ℕ) → 17 ≤ length bytes → bytes ≡ get_or bytes 0 0 ∷ (take 8 (drop 1 bytes) ++ (take 8 (drop 9 bytes) ++ drop 17 bytes))
header_parts bytes h1 = grind (arith, nat_tests, h1)

-- a fault of reading says why
pub refuses : (bytes : List ℕ) (fault : JournalFault) → IsReadFault fault → (fault ≡ BadRecord → BeginsWithHeader bytes × ((content : Content) → IsText content bytes → ⊥)) → RefusesOpen bytes fault
refuses bytes fault (inl memory) why = rw memory tt
refuses bytes fault (inr record_is_bad) why = rw record_is_bad (why record_is_bad)
