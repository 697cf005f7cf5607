-- A half, and its place in a text.
use Rattle.std.proofs.Common.{◌≡◌, ℕ, ◌+◌, ◌-◌, ◌<◌, ◌≤◌, ◌^◌, List, [], ◌∷◌, ◌++◌, length, take, drop, get_or, refl, sym, ◌∙◌, ap, arith, append_assoc, length-append}
use Rattle.std.proofs.lemmas.Bool.Decides.{nat_tests}
use Rattle.std.proofs.lemmas.List.{take-append-drop}
use Rattle.std.proofs.Math.Seq.{take-append-add}
use Rattle.coord_journal.specs.Facade.{BeginsWithBody, Content, IsHalf, IsOpened, ReadsAs, half_front, size_of, sized, used_by}
use Rattle.coord_journal.specs.declared.layout.TheConstants.{MAX_SNAPSHOT}
use Rattle.coord_journal.proofs.Reading.{reads_same, same_body, same_following}
use Rattle.coord_journal.proofs.Appended.{length_sized}

small_snapshot : MAX_SNAPSHOT < 2 ^ 32
small_snapshot = omega arith

-- a half begins with its version and snapshot
begins : (bytes : List ℕ) (content : Content) (used : ℕ) (half : IsHalf bytes content used) → BeginsWithBody MAX_SNAPSHOT content.version content.snapshot (half.opened ++ 0 ∷ half.following) bytes
begins bytes content used half =
    (half.snapshot, half.spelled ∙ ap (λ (l : List ℕ). content.version ∷ l) (append_assoc (sized content.snapshot) half.opened (0 ∷ half.following)))

reads : (bytes : List ℕ) (content : Content) (used : ℕ) (half : IsHalf bytes content used) → ReadsAs content.batches (length half.opened) (half.opened ++ 0 ∷ half.following)
reads bytes content used half = (half.opened, half.following, refl, half.batches, refl)

length_front : (version : ℕ) (snapshot opened : List ℕ) → length (half_front version snapshot opened) ≡ 5 + length snapshot + length opened
length_front version snapshot opened = omega (arith, length-append (sized snapshot) opened, length_sized snapshot)

pub length_opened : (batches : List (List ℕ)) (opened : List ℕ) → IsOpened batches opened → length opened ≡ size_of batches
length_opened [] opened is = ap length is
length_opened (b ∷ bs) opened is = omega (arith, ap length is.3.1, length-append (sized b) is.1, length_sized b, length_opened bs is.1 is.4)

-- a half is refused if the bytes after its snapshot are
pub half_refused : (bytes snapshot rest : List ℕ) (version : ℕ) → BeginsWithBody MAX_SNAPSHOT version snapshot rest bytes → ((batches : List (List ℕ)) (size : ℕ) → ReadsAs batches size rest → ⊥) → (content : Content) (used : ℕ) → IsHalf bytes content used → ⊥
half_refused bytes snapshot rest version body bad content used half =
    let following = same_following MAX_SNAPSHOT small_snapshot content.version version content.snapshot snapshot _ rest bytes (begins bytes content used half) body in
    bad content.batches (length half.opened) (rw (sym following) (reads bytes content used half))

-- the content of a half determines how much it uses
pub half_used : (bytes : List ℕ) (content : Content) (used : ℕ) → IsHalf bytes content used → used ≡ used_by content
half_used bytes content used half = omega (arith, half.used_is, length_front content.version content.snapshot half.opened, length_opened content.batches half.opened half.batches)

content_same : (v w : ℕ) (s t : List ℕ) (bs cs : List (List ℕ)) → v ≡ w → s ≡ t → bs ≡ cs → ◌≡◌ {A = Content} (record { version = v; snapshot = s; batches = bs }) (record { version = w; snapshot = t; batches = cs })
content_same v w s t bs cs h1 h2 h3 = grind (arith, nat_tests, h1, h2, h3)

-- bytes hold one content at most
pub half_same : (bytes : List ℕ) (c d : Content) (m n : ℕ) → IsHalf bytes c m → IsHalf bytes d n → c ≡ d
half_same bytes c d m n one other =
    let here = begins bytes c m one in
    let there = begins bytes d n other in
    let following = same_following MAX_SNAPSHOT small_snapshot c.version d.version c.snapshot d.snapshot _ _ bytes here there in
    let batches = reads_same c.batches d.batches (length one.opened) (length other.opened) (one.opened ++ 0 ∷ one.following) (reads bytes c m one)
    (rw following (reads bytes d n other)) in
    content_same c.version d.version c.snapshot d.snapshot c.batches d.batches
    (sym (ap (λ (l : List ℕ). get_or l 0 0) here.1) ∙ ap (λ (l : List ℕ). get_or l 0 0) there.1)
    (same_body MAX_SNAPSHOT small_snapshot c.version d.version c.snapshot d.snapshot _ _ bytes here there)
    batches.0

-- the used bytes of it are there
pub half_long : (bytes : List ℕ) (content : Content) (used : ℕ) → IsHalf bytes content used → used ≤ length bytes
half_long bytes content used half = omega (arith, half.used_is, ap length half.spelled, length-append (half_front content.version content.snapshot half.opened) (0 ∷ half.following))

-- a half that is cut off after its used bytes is the same half
pub half_cut : (bytes : List ℕ) (content : Content) (used n : ℕ) → IsHalf bytes content used → used ≤ n → IsHalf (take n bytes) content used
half_cut bytes content used n half fits =
    let front = half_front content.version content.snapshot half.opened in
    let size : n ≡ length (front ++ 0 ∷ []) + (n - used) = omega (arith, fits, half.used_is, length-append front (0 ∷ [])) in
    record {
      opened = half.opened;
      following = take (n - used) half.following;
      spelled = ap (λ (l : List ℕ). take n l) (half.spelled ∙ sym (append_assoc front (0 ∷ []) half.following))
          ∙ ap (λ (k : ℕ). take k ((front ++ 0 ∷ []) ++ half.following)) size
          ∙ take-append-add (front ++ 0 ∷ []) half.following (n - used)
          ∙ append_assoc front (0 ∷ []) (take (n - used) half.following);
      snapshot = half.snapshot;
      batches = half.batches;
      used_is = half.used_is;
    }

pub half_whole : (bytes : List ℕ) (content : Content) (used n : ℕ) → IsHalf (take n bytes) content used → IsHalf bytes content used
half_whole bytes content used n half =
    let front = half_front content.version content.snapshot half.opened in
    record {
      opened = half.opened;
      following = half.following ++ drop n bytes;
      spelled = sym (take-append-drop n bytes) ∙ ap (λ (l : List ℕ). l ++ drop n bytes) half.spelled ∙ append_assoc front (0 ∷ half.following) (drop n bytes);
      snapshot = half.snapshot;
      batches = half.batches;
      used_is = half.used_is;
    }
