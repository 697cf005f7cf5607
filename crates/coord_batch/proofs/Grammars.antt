-- The value read by a format is encoded by the bytes, an encoding is read, and a truncated one is Short: laws of each
-- way of making formats.
use Rattle.std.proofs.Common.{◌≡◌, ◌⊎◌, ℕ, zero, suc, ◌+◌, ◌^◌, ◌<◌, ◌≤◌, Bool, true, false, cond, ltb, eqb, List, [], ◌∷◌, ◌++◌, length, get_or, take, drop, Result, Ok, Err, refl, sym, ap, subst, ◌∙◌, append_assoc, arith, inl, inr}
use Rattle.std.specs.List.{flat_map}
use Rattle.std.specs.Int.{Width, w16, w64, byte_len, from_be_bytes, to_be_bytes}
use Rattle.std.proofs.lemmas.Bool.{cases_lt, ltb-false, le-ltb, lt-ltb, eqb-true}
use Rattle.std.proofs.lemmas.List.{take_at, drop_at, take-append-drop, length-append, length-take, get_or-drop, get_or-take, get_or_past, append-nil, nil_from_length}
use Rattle.std.proofs.lemmas.List.Concat.{flat_map-cons}
use Rattle.std.proofs.lemmas.Nat.{be_bytes_2, be_bytes_8, from_be_bytes-to_be_bytes_2, from_be_bytes-to_be_bytes_8}
use Rattle.coord_batch.specs.declared.fault.Flaw.{Flaw}
use Rattle.coord_batch.specs.declared.fault.Flaw.TheVariants.{Short, BadByte, Extra}
use Rattle.coord_batch.specs.Format.{Format, ◌>>=◌, byte, u16, u64, nothing, number_at, first_byte, such_that, followed, made, cases, counted, items_at, FitAfter, whole, ended}

abbrev pub IsBytes : List ℕ → Type 0
IsBytes bytes = (i : ℕ) → get_or bytes i 0 < 256

-- the value that was read, and the rest
pub record Takes {A : Type 0} (f : Format A) (bytes : List ℕ) (x : A) (rest : List ℕ) : Type 0 where
  pub parts : bytes ≡ f.text x ++ rest
  pub left : IsBytes rest
  pub fits : f.Fits x

-- the bytes encode the value that was read, an encoding is read whatever follows it, and a truncated one is Short
pub record IsGrammar {A : Type 0} (f : Format A) : Type 0 where
  pub takes : (bytes : List ℕ) (x : A) (rest : List ℕ) → IsBytes bytes → f.read bytes ≡ Ok (x, rest) → Takes f bytes x rest
  pub again : (x : A) (rest : List ℕ) → f.Fits x → f.read (f.text x ++ rest) ≡ Ok (x, rest)
  pub cut : (x : A) (front rest : List ℕ) (b : ℕ) → f.Fits x → f.text x ≡ front ++ b ∷ rest → f.read front ≡ Err Short

-- ---- answers

-- the value of a step that did not fail
pub bind_ok : {A B : Type 0} (r : Result A Flaw) (f : A → Result B Flaw) (y : B) → (r >>= f) ≡ Ok y → (x : A) × (r ≡ Ok x) × (f x ≡ Ok y)
bind_ok (Ok x) f y e = (x, refl, e)
bind_ok (Err d) f y e = absurd cc

-- a test that did not fail
guard_ok : {A : Type 0} (b : Bool) (d : Flaw) (x y : A) → cond b (Err d) (Ok x) ≡ Ok y → (b ≡ false) × (x ≡ y)
guard_ok true d x y e = absurd cc
guard_ok false d x y e = (refl, cc)

-- a test that held
held_ok : {A : Type 0} (b : Bool) (d : Flaw) (x y : A) → cond b (Ok x) (Err d) ≡ Ok y → (b ≡ true) × (x ≡ y)
held_ok true d x y e = (refl, cc)
held_ok false d x y e = absurd cc

abbrev done : {A : Type 0} → A → Result A Flaw
done x = Ok x

ok_is : {A : Type 0} (x y : A) → done x ≡ done y → x ≡ y
ok_is x y e = cc

-- ---- truncated texts

-- a text of two parts is cut in the first one, or after it
cut_in_two : (a c front rest : List ℕ) (b : ℕ) → a ++ c ≡ front ++ b ∷ rest → ((more : List ℕ) × (a ≡ front ++ b ∷ more)) ⊎ ((following : List ℕ) × (front ≡ a ++ following) × (c ≡ following ++ b ∷ rest))
cut_in_two [] c front rest b is = inr (front, refl, is)
cut_in_two (x ∷ a) c [] rest b is = let first : x ≡ b = cc in inl (a, ap (λ y. y ∷ a) first)
cut_in_two (x ∷ a) c (y ∷ front) rest b is =
    let first : x ≡ y = cc in
    let others : a ++ c ≡ front ++ b ∷ rest = cc in
    elim (cut_in_two a c front rest b others) [
      | inl p ↦ let same : a ≡ front ++ b ∷ p.0 = p.1 in inl (p.0, cc)
      | inr p ↦ let same : front ≡ a ++ p.0 = p.1 in inr (p.0, cc, p.2)
    ]

-- a truncated text has fewer bytes
front_shorter : (a front rest : List ℕ) (b : ℕ) → a ≡ front ++ b ∷ rest → length front < length a
front_shorter a front rest b is = omega (arith, ap length is, length-append front (b ∷ rest))

-- ---- bytes

IsBytes-drop : (n : ℕ) (bytes : List ℕ) → IsBytes bytes → IsBytes (drop n bytes)
IsBytes-drop n bytes h i = rw get_or-drop (h (n + i))

IsBytes-take : (n : ℕ) (bytes : List ℕ) → IsBytes bytes → IsBytes (take n bytes)
IsBytes-take n bytes h1 = grind (arith, cases_lt, get_or-take, get_or_past, length-take)

byte_takes : (bytes : List ℕ) (x : ℕ) (rest : List ℕ) → IsBytes bytes → first_byte bytes ≡ Ok (x, rest) → Takes byte bytes x rest
byte_takes [] x rest fits e = absurd cc
byte_takes (b ∷ bytes) x rest fits e =
    subst (λ (y : ℕ × List ℕ). Takes byte (b ∷ bytes) y.0 y.1) (ok_is (b, bytes) (x, rest) e) (record { parts = refl; left = λ i. fits (suc i); fits = fits 0 })

byte_cut : (x : ℕ) (front rest : List ℕ) (b : ℕ) → x ∷ [] ≡ front ++ b ∷ rest → first_byte front ≡ Err Short
byte_cut x front rest b is = let none : front ≡ [] = nil_from_length front (omega (arith, front_shorter (x ∷ []) front rest b is)) in ap first_byte none

pub byte_grammar : IsGrammar byte
byte_grammar = record { takes = byte_takes; again = λ x rest fits. refl; cut = λ x front rest b fits is. byte_cut x front rest b is }

-- ---- no bytes

pub nothing_grammar : IsGrammar nothing
nothing_grammar = record {
  takes = λ bytes x rest fits e. subst (λ (y : ℕ × List ℕ). Takes nothing bytes y.0 y.1) (ok_is (0, bytes) (x, rest) e) (record { parts = refl; left = fits; fits = refl });
  again = λ x rest fits. ap (λ n. Ok (n, rest)) (sym fits);
  cut = λ x front rest b fits is. absurd (omega (arith, front_shorter [] front rest b is));
}

-- ---- numbers

record IsWide (w : Width) (limit : ℕ) : Type 0 where
  pub len : (n : ℕ) → length (to_be_bytes w n) ≡ byte_len w
  pub back : (bytes : List ℕ) → length bytes ≡ byte_len w → IsBytes bytes → to_be_bytes w (from_be_bytes w bytes) ≡ bytes
  pub again : (n : ℕ) → n < limit → from_be_bytes w (to_be_bytes w n) ≡ n
  pub below : (bytes : List ℕ) → IsBytes bytes → from_be_bytes w bytes < limit

wide16 : IsWide w16 (2 ^ 16)
wide16 = grind (arith, be_bytes_2, from_be_bytes-to_be_bytes_2)

wide64 : IsWide w64 (2 ^ 64)
wide64 = grind (arith, be_bytes_8, from_be_bytes-to_be_bytes_8)

abbrev number : Width → ℕ → Format ℕ
number w limit = record { text = to_be_bytes w; read = number_at w; Fits = λ n. n < limit }

module _ (w : Width) (limit : ℕ) (wide : IsWide w limit) where
  number_takes : (bytes : List ℕ) (n : ℕ) (rest : List ℕ) → IsBytes bytes → number_at w bytes ≡ Ok (n, rest) → Takes (number w limit) bytes n rest
  number_takes bytes n rest fits e =
      let g = guard_ok (ltb (length bytes) (byte_len w)) Short (from_be_bytes w (take (byte_len w) bytes), drop (byte_len w) bytes) (n, rest) e in
      let long : byte_len w ≤ length bytes = ltb-false _ _ g.0 in
      let front = take (byte_len w) bytes in
      let front_fits = IsBytes-take (byte_len w) bytes fits in
      let spelled : to_be_bytes w (from_be_bytes w front) ≡ front = wide.back front (omega (arith, length-take (byte_len w) bytes)) front_fits in
      subst (λ (y : ℕ × List ℕ). Takes (number w limit) bytes y.0 y.1) g.1 (record {
        parts = sym (take-append-drop (byte_len w) bytes) ∙ ap (λ (t : List ℕ). t ++ drop (byte_len w) bytes) (sym spelled);
        left = IsBytes-drop (byte_len w) bytes fits;
        fits = wide.below front front_fits;
      })

  number_again : (n : ℕ) (rest : List ℕ) → n < limit → number_at w (to_be_bytes w n ++ rest) ≡ Ok (n, rest)
  number_again n rest lt =
      let len = wide.len n in
      let long : ltb (length (to_be_bytes w n ++ rest)) (byte_len w) ≡ false = le-ltb _ _ (omega (arith, length-append (to_be_bytes w n) rest)) in
      rw (long, take_at (to_be_bytes w n) rest (byte_len w) len, drop_at (to_be_bytes w n) rest (byte_len w) len, wide.again n lt) refl

  number_cut : (n : ℕ) (front rest : List ℕ) (b : ℕ) → to_be_bytes w n ≡ front ++ b ∷ rest → number_at w front ≡ Err Short
  number_cut n front rest b is =
      let short : ltb (length front) (byte_len w) ≡ true = lt-ltb _ _ (omega (arith, front_shorter (to_be_bytes w n) front rest b is, wide.len n)) in
      rw short refl

  number_grammar : IsGrammar (number w limit)
  number_grammar = record { takes = number_takes; again = number_again; cut = λ n front rest b fits is. number_cut n front rest b is }

pub u16_grammar : IsGrammar u16
u16_grammar = number_grammar w16 (2 ^ 16) wide16

pub u64_grammar : IsGrammar u64
u64_grammar = number_grammar w64 (2 ^ 64) wide64

-- ---- what passes a test

module _ {A : Type 0} (test : A → Bool) (f : Format A) (grammar : IsGrammar f) where
  such_takes : (bytes : List ℕ) (x : A) (rest : List ℕ) → IsBytes bytes → (such_that test f).read bytes ≡ Ok (x, rest) → Takes (such_that test f) bytes x rest
  such_takes bytes x rest fits e =
      let a = bind_ok (f.read bytes) (λ y. cond (test y.0) (Ok y) (Err (BadByte (length bytes)))) (x, rest) e in
      let g = held_ok (test a.0.0) (BadByte (length bytes)) a.0 (x, rest) a.2 in
      let t = grammar.takes bytes a.0.0 a.0.1 fits a.1 in
      subst (λ (y : A × List ℕ). Takes (such_that test f) bytes y.0 y.1) g.1 (record { parts = t.parts; left = t.left; fits = (t.fits, g.0) })

  pub such_grammar : IsGrammar (such_that test f)
  such_grammar = record {
    takes = such_takes;
    again = λ x rest fits. rw (grammar.again x rest fits.0, fits.1) refl;
    cut = λ x front rest b fits is. rw (grammar.cut x front rest b fits.0 is) refl;
  }

-- ---- one after the other

module _ {A B : Type 0} (f : Format A) (g : A → Format B) (first : IsGrammar f) (second : (x : A) → IsGrammar (g x)) where
  both_take : (bytes : List ℕ) (p : A × B) (rest : List ℕ) → IsBytes bytes → (followed f g).read bytes ≡ Ok (p, rest) → Takes (followed f g) bytes p rest
  both_take bytes p rest fits e =
      let a = bind_ok (f.read bytes) (λ x. (g x.0).read x.1 >>= λ y. Ok ((x.0, y.0), y.1)) (p, rest) e in
      let b = bind_ok ((g a.0.0).read a.0.1) (λ y. Ok ((a.0.0, y.0), y.1)) (p, rest) a.2 in
      let t = first.takes bytes a.0.0 a.0.1 fits a.1 in
      let s = (second a.0.0).takes a.0.1 b.0.0 b.0.1 t.left b.1 in
      let made : (A × B) × List ℕ = ((a.0.0, b.0.0), b.0.1) in
      subst (λ (y : (A × B) × List ℕ). Takes (followed f g) bytes y.0 y.1) (ok_is made (p, rest) b.2) (record {
        parts = t.parts ∙ ap (λ (l : List ℕ). f.text a.0.0 ++ l) s.parts ∙ sym (append_assoc (f.text a.0.0) ((g a.0.0).text b.0.0) b.0.1);
        left = s.left;
        fits = (t.fits, s.fits);
      })

  both_again : (p : A × B) (rest : List ℕ) → (followed f g).Fits p → (followed f g).read ((followed f g).text p ++ rest) ≡ Ok (p, rest)
  both_again p rest fits =
      let regrouped = append_assoc (f.text p.0) ((g p.0).text p.1) rest in
      ap (followed f g).read regrouped ∙ rw (first.again p.0 ((g p.0).text p.1 ++ rest) fits.0, (second p.0).again p.1 rest fits.1) refl

  both_cut : (p : A × B) (front rest : List ℕ) (b : ℕ) → (followed f g).Fits p → (followed f g).text p ≡ front ++ b ∷ rest → (followed f g).read front ≡ Err Short
  both_cut p front rest b fits is = grind (arith, cut_in_two)

  pub followed_grammar : IsGrammar (followed f g)
  followed_grammar = record { takes = both_take; again = both_again; cut = both_cut }

-- ---- a value by its parts

module _ {A B : Type 0} (make : A → B) (parts : B → A) (f : Format A) (grammar : IsGrammar f) (back : (x : A) → f.Fits x → parts (make x) ≡ x) where
  made_takes : (bytes : List ℕ) (y : B) (rest : List ℕ) → IsBytes bytes → (made make parts f).read bytes ≡ Ok (y, rest) → Takes (made make parts f) bytes y rest
  made_takes bytes y rest fits e =
      let a = bind_ok (f.read bytes) (λ x. Ok (make x.0, x.1)) (y, rest) e in
      let t = grammar.takes bytes a.0.0 a.0.1 fits a.1 in
      subst (λ (z : B × List ℕ). Takes (made make parts f) bytes z.0 z.1) (ok_is (make a.0.0, a.0.1) (y, rest) a.2) (record {
        parts = t.parts ∙ ap (λ x. f.text x ++ a.0.1) (sym (back a.0.0 t.fits));
        left = t.left;
        fits = (a.0.0, t.fits, refl);
      })

  made_again : (y : B) (rest : List ℕ) → (made make parts f).Fits y → (made make parts f).read (f.text (parts y) ++ rest) ≡ Ok (y, rest)
  made_again y rest fits = grind arith

  made_cut : (y : B) (front rest : List ℕ) (b : ℕ) → (made make parts f).Fits y → f.text (parts y) ≡ front ++ b ∷ rest → (made make parts f).read front ≡ Err Short
  made_cut y front rest b fits is = grind arith

  pub made_grammar : IsGrammar (made make parts f)
  made_grammar = record { takes = made_takes; again = made_again; cut = made_cut }

-- ---- cases

pub cases_grammar : {A : Type 0} (n : ℕ) (which : A → ℕ) (case : ℕ → Format A) → ((t : ℕ) → IsGrammar (case t)) → ((t : ℕ) (x : A) → t < n → (case t).Fits x → which x ≡ t) → IsGrammar (cases n which case)
cases_grammar n which case each each_fits =
    made_grammar (λ p. p.1) (λ x. (which x, x)) (followed (such_that (λ t. ltb t n) byte) case)
    (followed_grammar (such_that (λ t. ltb t n) byte) case (such_grammar (λ t. ltb t n) byte byte_grammar) each)
    (λ p fits. ap (λ t. (t, p.1)) (each_fits p.0 p.1 (grind (arith, fits.0.1)) fits.1))

-- ---- as many items as are counted

module _ {A : Type 0} (item : List A → Format A) (text : A → List ℕ) where
  record Items (front : List A) (n : ℕ) (bytes : List ℕ) (all : List A) (rest : List ℕ) : Type 0 where
    pub following : List A
    pub together : all ≡ front ++ following
    pub number : length following ≡ n
    pub parts : bytes ≡ flat_map text following ++ rest
    pub left : IsBytes rest
    pub fits : FitAfter item front following

  module _ (each : (front : List A) → IsGrammar (item front)) (same : (front : List A) → (item front).text ≡ text) where
    items_take : (n : ℕ) (front : List A) (bytes : List ℕ) (all : List A) (rest : List ℕ) → IsBytes bytes → items_at item n front bytes ≡ Ok (all, rest) → Items front n bytes all rest
    unfolding items_at FitAfter
    items_take zero front bytes all rest fits e =
        subst (λ (y : List A × List ℕ). Items front 0 bytes y.0 y.1) (ok_is (front, bytes) (all, rest) e) (record { following = []; together = sym (append-nil front); number = refl; parts = refl; left = fits; fits = tt })
    items_take (suc n) front bytes all rest fits e =
        let a = bind_ok ((item front).read bytes) (λ x. items_at item n (front ++ x.0 ∷ []) x.1) (all, rest) e in
        let t = (each front).takes bytes a.0.0 a.0.1 fits a.1 in
        let r = items_take n (front ++ a.0.0 ∷ []) a.0.1 all rest t.left a.2 in
        let first : bytes ≡ text a.0.0 ++ a.0.1 = t.parts ∙ ap (λ (g : A → List ℕ). g a.0.0 ++ a.0.1) (same front) in
        record {
          following = a.0.0 ∷ r.following;
          together = r.together ∙ append_assoc front (a.0.0 ∷ []) r.following;
          number = ap suc r.number;
          parts = first ∙ ap (λ (l : List ℕ). text a.0.0 ++ l) r.parts ∙ sym (append_assoc (text a.0.0) (flat_map text r.following) rest) ∙ ap (λ (l : List ℕ). l ++ rest) (sym (flat_map-cons text a.0.0 r.following));
          left = r.left;
          fits = (t.fits, r.fits);
        }

    items_again : (xs front : List A) (rest : List ℕ) → FitAfter item front xs → items_at item (length xs) front (flat_map text xs ++ rest) ≡ Ok (front ++ xs, rest)
    unfolding items_at FitAfter
    items_again [] front rest fits = ap (λ (l : List A). Ok (l, rest)) (sym (append-nil front))
    items_again (x ∷ xs) front rest fits =
        let regrouped : flat_map text (x ∷ xs) ++ rest ≡ (item front).text x ++ (flat_map text xs ++ rest) =
        ap (λ (l : List ℕ). l ++ rest) (flat_map-cons text x xs) ∙ append_assoc (text x) (flat_map text xs) rest ∙ ap (λ (g : A → List ℕ). g x ++ (flat_map text xs ++ rest)) (sym (same front)) in
        let one : (item front).read (flat_map text (x ∷ xs) ++ rest) ≡ Ok (x, flat_map text xs ++ rest) = ap (item front).read regrouped ∙ (each front).again x (flat_map text xs ++ rest) fits.0 in
        ap (λ r. r >>= λ y. items_at item (length xs) (front ++ y.0 ∷ []) y.1) one ∙ items_again xs (front ++ x ∷ []) rest fits.1 ∙ ap (λ (l : List A). Ok (l, rest)) (append_assoc front (x ∷ []) xs)

    items_cut : (xs front : List A) (bytes rest : List ℕ) (b : ℕ) → FitAfter item front xs → flat_map text xs ≡ bytes ++ b ∷ rest → items_at item (length xs) front bytes ≡ Err Short
    unfolding items_at FitAfter
    items_cut [] front bytes rest b fits is = absurd (omega (arith, front_shorter [] bytes rest b is))
    items_cut (x ∷ xs) front bytes rest b fits is =
        let parts : text x ++ flat_map text xs ≡ bytes ++ b ∷ rest = sym (flat_map-cons text x xs) ∙ is in
        let here : (item front).text x ≡ text x = ap (λ (g : A → List ℕ). g x) (same front) in
        elim (cut_in_two (text x) (flat_map text xs) bytes rest b parts) [
          | inl c ↦ rw ((each front).cut x bytes c.0 b fits.0 (here ∙ c.1)) refl
          | inr c ↦
              let one : (item front).read bytes ≡ Ok (x, c.0) = ap (item front).read (c.1 ∙ ap (λ (l : List ℕ). l ++ c.0) (sym here)) ∙ (each front).again x c.0 fits.0 in
              ap (λ r. r >>= λ y. items_at item (length xs) (front ++ y.0 ∷ []) y.1) one ∙ items_cut xs (front ++ x ∷ []) c.0 rest b fits.1 c.2
        ]

module _ {A : Type 0} (count : Format ℕ) (item : List A → Format A) (number : IsGrammar count) (each : (front : List A) → IsGrammar (item front)) (same : (front : List A) → (item front).text ≡ (item []).text) where
  counted_take : (bytes : List ℕ) (xs : List A) (rest : List ℕ) → IsBytes bytes → (counted count item).read bytes ≡ Ok (xs, rest) → Takes (counted count item) bytes xs rest
  counted_take bytes xs rest fits e =
      let a = bind_ok (count.read bytes) (λ n. items_at item n.0 [] n.1) (xs, rest) e in
      let t = number.takes bytes a.0.0 a.0.1 fits a.1 in
      let r = items_take item (item []).text each same a.0.0 [] a.0.1 xs rest t.left a.2 in
      let following : r.following ≡ xs = sym r.together in
      let is : a.0.0 ≡ length xs = sym r.number ∙ ap length following in
      record {
        parts = t.parts ∙ ap (λ (l : List ℕ). count.text a.0.0 ++ l) r.parts ∙ sym (append_assoc (count.text a.0.0) (flat_map (item []).text r.following) rest)
            ∙ ap (λ (ys : List A). (count.text a.0.0 ++ flat_map (item []).text ys) ++ rest) following ∙ ap (λ n. (count.text n ++ flat_map (item []).text xs) ++ rest) is;
        left = r.left;
        fits = (subst count.Fits is t.fits, subst (FitAfter item []) following r.fits);
      }

  counted_again : (xs : List A) (rest : List ℕ) → (counted count item).Fits xs → (counted count item).read ((counted count item).text xs ++ rest) ≡ Ok (xs, rest)
  counted_again xs rest fits =
      let regrouped = append_assoc (count.text (length xs)) (flat_map (item []).text xs) rest in
      ap (counted count item).read regrouped ∙ ap (λ r. r >>= λ n. items_at item n.0 [] n.1) (number.again (length xs) (flat_map (item []).text xs ++ rest) fits.0)
      ∙ items_again item (item []).text each same xs [] rest fits.1

  counted_cut : (xs : List A) (front rest : List ℕ) (b : ℕ) → (counted count item).Fits xs → (counted count item).text xs ≡ front ++ b ∷ rest → (counted count item).read front ≡ Err Short
  counted_cut xs front rest b fits is =
      elim (cut_in_two (count.text (length xs)) (flat_map (item []).text xs) front rest b is) [
        | inl c ↦ rw (number.cut (length xs) front c.0 b fits.0 c.1) refl
        | inr c ↦ ap (counted count item).read c.1 ∙ ap (λ r. r >>= λ n. items_at item n.0 [] n.1) (number.again (length xs) c.0 fits.0)
            ∙ items_cut item (item []).text each same xs [] c.0 rest b fits.1 c.2
      ]

  pub counted_grammar : IsGrammar (counted count item)
  counted_grammar = record { takes = counted_take; again = counted_again; cut = counted_cut }

-- ---- all of the bytes

module _ {A : Type 0} (f : Format A) (grammar : IsGrammar f) where
  -- the bytes encode the value that was read
  pub whole_found : (bytes : List ℕ) (x : A) → IsBytes bytes → whole f bytes ≡ Ok x → (bytes ≡ f.text x) × f.Fits x
  whole_found bytes x fits e =
      let a = bind_ok (f.read bytes) ended x e in
      let g = held_ok (eqb (length a.0.1) 0) (Extra (length a.0.1)) a.0.0 x a.2 in
      let t = grammar.takes bytes a.0.0 a.0.1 fits a.1 in
      let nothing : a.0.1 ≡ [] = nil_from_length a.0.1 (eqb-true _ _ g.0) in
      rw (sym g.1) (t.parts ∙ ap (λ (l : List ℕ). f.text a.0.0 ++ l) nothing ∙ append-nil (f.text a.0.0), t.fits)

  -- what spells a value is read as that value
  pub whole_again : (x : A) → f.Fits x → whole f (f.text x) ≡ Ok x
  whole_again x fits =
      let read : f.read (f.text x) ≡ Ok (x, []) = ap f.read (sym (append-nil (f.text x))) ∙ grammar.again x [] fits in
      ap (λ r. r >>= ended) read

  -- no spelling begins another one
  pub prefix_free : (x y : A) (rest more : List ℕ) → f.Fits x → f.Fits y → f.text x ++ rest ≡ f.text y ++ more → (x ≡ y) × (rest ≡ more)
  prefix_free x y rest more fits also same = grind (arith, ok_is)
