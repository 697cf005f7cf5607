-- The spelling of a value is read as that value, whatever words follow it, and none of its words contains a space: a
-- law of each way of making formats.
use Rattle.std.proofs.Common.{◌≡◌, Bool, true, false, not, ◌&&◌, List, [], ◌∷◌, ◌++◌, length, Option, Some, None, refl, sym, ap, ◌∙◌, subst, append_assoc, arith, bytes_eq}
use Rattle.std.specs.List.{All, AllByRecursion, position_or_len, join_with_byte}
use Rattle.std.proofs.lemmas.Option.{none-some}
use Rattle.std.proofs.lemmas.List.Splits.{slice_split_at, slice_split_none}
use Rattle.std.proofs.lemmas.List.Sums.{fails_before_first}
use Rattle.std.proofs.lemmas.Slice.Eq.{bytes_eq-Decides}
use Rattle.coord_world.proofs.Facade.{both as both_true}
use Rattle.coord_drill.specs.Format.{◌>>=◌, Word, Format, Row, field, nothing, ◌&◌, made, one_of, or_else, read_by, read_first, read_word, spell_by}
use Rattle.coord_drill.specs.Grammar.{is_space, words_of}

-- ---- words without spaces

-- a word that holds no space
abbrev pub IsPlain : Word → Type 0
IsPlain w = position_or_len is_space w ≡ length w

-- words that hold no space
abbrev pub ArePlain : List Word → Type 0
ArePlain [] = Unit {0}
ArePlain (w ∷ ws) = IsPlain w × ArePlain ws

-- words without spaces after words without spaces
ArePlain-append : (ws vs : List Word) → ArePlain ws → ArePlain vs → ArePlain (ws ++ vs)
ArePlain-append [] vs p q = q
ArePlain-append (w ∷ ws) vs p q = (p.0, ArePlain-append ws vs p.1 q)

-- no byte of such a word is a space
no_space : (w : Word) → IsPlain w → All (λ b. is_space b ≡ false) w
no_space w plain k d below = fails_before_first is_space w k d (omega arith)

-- words without spaces, joined by spaces, are split again
pub words_of-joined : (w : Word) (ws : List Word) → ArePlain (w ∷ ws) → words_of (join_with_byte 32 (w ∷ ws)) ≡ w ∷ ws
words_of-joined w [] p = slice_split_none is_space w (no_space w p.0)
words_of-joined w (v ∷ ws) p = slice_split_at is_space w 32 (join_with_byte 32 (v ∷ ws)) (no_space w p.0) refl ∙ ap (λ l. w ∷ l) (words_of-joined v ws p.1)

-- ---- formats

-- a spelling is read as its value, and its words contain no space
pub record IsFormat {A : Type 0} (f : Format A) : Type 0 where
  pub again : (x : A) (ws rest : List Word) → f.spell x ≡ Some ws → f.read (ws ++ rest) ≡ Some (x, rest)
  pub plain : (x : A) (ws : List Word) → f.spell x ≡ Some ws → ArePlain ws

-- a field, where each word that is spelled is read so and holds no space
module _ {A : Type 0} (word_of : A → Option Word) (of_word : Word → Option A) (h : (x : A) (w : Word) → word_of x ≡ Some w → (of_word w ≡ Some x) × IsPlain w) where
  field_again : (x : A) (ws rest : List Word) (o : Option Word) → word_of x ≡ o → (o >>= λ w. Some (w ∷ [])) ≡ Some ws → read_word of_word (ws ++ rest) ≡ Some (x, rest)
  field_again x ws rest o h1 h2 = grind (arith, none-some)

  field_plain : (x : A) (ws : List Word) (o : Option Word) → word_of x ≡ o → (o >>= λ w. Some (w ∷ [])) ≡ Some ws → ArePlain ws
  field_plain x ws None e f = absurd (none-some ws f)
  field_plain x ws (Some w) e f = let same : w ∷ [] ≡ ws = cc in subst ArePlain same ((h x w e).1, tt)

  pub field_format : IsFormat (field word_of of_word)
  field_format = record { again = λ x ws rest e. field_again x ws rest _ refl e; plain = λ x ws e. field_plain x ws _ refl e }

-- no word
pub nothing_format : IsFormat nothing
nothing_format = grind arith

-- one after the other
module _ {A B : Type 0} (f : Format A) (g : Format B) (first : IsFormat f) (second : IsFormat g) where
  and_again : (p : A × B) (ws rest : List Word) (o : Option (List Word)) (u : Option (List Word)) → f.spell p.0 ≡ o → g.spell p.1 ≡ u → (o >>= λ us. u >>= λ vs. Some (us ++ vs)) ≡ Some ws → (f & g).read (ws ++ rest) ≡ Some (p, rest)
  and_again p ws rest None u e1 e2 e = absurd (none-some ws e)
  and_again p ws rest (Some us) None e1 e2 e = absurd (none-some ws e)
  and_again p ws rest (Some us) (Some vs) e1 e2 e =
      let same : us ++ vs ≡ ws = cc in
      rw (sym same) (
      ap (λ v. (f & g).read v) (append_assoc us vs rest)
      ∙ ap (λ r. r >>= λ x. g.read x.1 >>= λ y. Some ((x.0, y.0), y.1)) (first.again p.0 us (vs ++ rest) e1)
      ∙ ap (λ r. r >>= λ y. Some ((p.0, y.0), y.1)) (second.again p.1 vs rest e2)
      )

  and_plain : (p : A × B) (ws : List Word) (o : Option (List Word)) (u : Option (List Word)) → f.spell p.0 ≡ o → g.spell p.1 ≡ u → (o >>= λ us. u >>= λ vs. Some (us ++ vs)) ≡ Some ws → ArePlain ws
  and_plain p ws None u e1 e2 e = absurd (none-some ws e)
  and_plain p ws (Some us) None e1 e2 e = absurd (none-some ws e)
  and_plain p ws (Some us) (Some vs) e1 e2 e = let same : us ++ vs ≡ ws = cc in subst ArePlain same (ArePlain-append us vs (first.plain p.0 us e1) (second.plain p.1 vs e2))

  pub and_format : IsFormat (f & g)
  and_format = record { again = λ p ws rest e. and_again p ws rest _ _ refl refl e; plain = λ p ws e. and_plain p ws _ _ refl refl e }

-- a value from its parts, if it is made of the parts that it yields
module _ {A B : Type 0} (make : A → B) (parts : B → Option A) (f : Format A) (format : IsFormat f) (h : (y : B) (x : A) → parts y ≡ Some x → make x ≡ y) where
  made_again : (y : B) (ws rest : List Word) (o : Option A) → parts y ≡ o → (o >>= f.spell) ≡ Some ws → (made make parts f).read (ws ++ rest) ≡ Some (y, rest)
  made_again y ws rest None e1 e = absurd (none-some ws e)
  made_again y ws rest (Some x) e1 e = ap (λ r. r >>= λ z. Some (make z.0, z.1)) (format.again x ws rest e) ∙ ap (λ z. Some (z, rest)) (h y x e1)

  made_plain : (y : B) (ws : List Word) (o : Option A) → parts y ≡ o → (o >>= f.spell) ≡ Some ws → ArePlain ws
  made_plain y ws None e1 e = absurd (none-some ws e)
  made_plain y ws (Some x) e1 e = format.plain x ws e

  pub made_format : IsFormat (made make parts f)
  made_format = record { again = λ y ws rest e. made_again y ws rest _ refl e; plain = λ y ws e. made_plain y ws _ refl e }

-- values are made of their parts
pub made_of : {A B : Type 0} (make : A → B) (p x : A) → Some p ≡ Some x → make x ≡ make p
made_of make p x e = let same : p ≡ x = cc in ap make (sym same)

-- one after the other
pub both : {A B : Type 0} {f : Format A} {g : Format B} → IsFormat f → IsFormat g → IsFormat (f & g)
both first second = and_format _ _ first second

-- by its parts
pub by_parts : {A B : Type 0} {f : Format A} (make : A → B) (parts : B → Option A) → ((y : B) (x : A) → parts y ≡ Some x → make x ≡ y) → IsFormat f → IsFormat (made make parts f)
by_parts make parts h format = made_format make parts _ format h

-- ---- tables

-- a row of another verb than these
abbrev pub is_other : {A : Type 0} → Row A → List (Row A) → Bool
is_other r [] = true
is_other r (s ∷ ss) = not (bytes_eq s.verb r.verb) && is_other r ss

-- of such a row, the first one and the others
other_parts : (b c : Bool) → (not b && c) ≡ true → (b ≡ false) × (c ≡ true)
other_parts true c e = absurd cc
other_parts false c e = (refl, e)

abbrev pub are_apart : {A : Type 0} → List (Row A) → Bool
are_apart [] = true
are_apart (r ∷ rs) = is_other r rs && are_apart rs

abbrev pub IsRow : {A : Type 0} → Row A → Type 0
IsRow r = IsFormat r.fields × IsPlain r.verb

-- rows of different verbs
pub record IsTable {A : Type 0} (rows : List (Row A)) : Type 0 where
  pub each : AllByRecursion IsRow rows
  pub apart : are_apart rows ≡ true

-- the row that a spelling is of
pub record Found (A : Type 0) (rows : List (Row A)) (x : A) (ws rest : List Word) : Type 0 where
  pub verb : Word
  pub following : List Word
  pub is : ws ≡ verb ∷ following
  pub reads : read_by rows verb (following ++ rest) ≡ Some (x, rest)
  pub plain : IsPlain verb × ArePlain following
  pub apart : (r : Row A) → is_other r rows ≡ true → bytes_eq verb r.verb ≡ false

-- a verb is the verb of its own row
same_bytes : (w : Word) → bytes_eq w w ≡ true
same_bytes w = (bytes_eq-Decides w w).1 refl

-- a spelling by a table is of one of its rows, whose verb reads it
module _ {A : Type 0} where
  found_later : (r : Row A) (rs : List (Row A)) (x : A) (ws rest : List Word) → is_other r rs ≡ true → Found A rs x ws rest → Found A (r ∷ rs) x ws rest
  found_later r rs x ws rest others f = grind (arith, other_parts)

  found_here : (r : Row A) (rs : List (Row A)) (x : A) (vs ws rest : List Word) → IsFormat r.fields → IsPlain r.verb → r.fields.spell x ≡ Some vs → r.verb ∷ vs ≡ ws → Found A (r ∷ rs) x ws rest
  found_here r rs x vs ws rest format plain e same = grind (arith, same_bytes, other_parts)

  pub found_by : (rows : List (Row A)) → IsTable rows → (x : A) (ws rest : List Word) → spell_by rows x ≡ Some ws → Found A rows x ws rest
  found_by [] table x ws rest e = absurd (none-some ws e)
  found_by (r ∷ rs) table x ws rest e = by (λ f. found_by rs (record { each = table.each.1; apart = others.1 }) x ws rest f) (r.fields.spell x) refl e
    where
      others : (is_other r rs ≡ true) × (are_apart rs ≡ true)
      others = both_true (is_other r rs) (are_apart rs) table.apart

      by : (spell_by rs x ≡ Some ws → Found A rs x ws rest) → (o : Option (List Word)) → r.fields.spell x ≡ o → or_else (o >>= λ vs. Some (r.verb ∷ vs)) (spell_by rs x) ≡ Some ws → Found A (r ∷ rs) x ws rest
      by later None f g = found_later r rs x ws rest others.0 (later g)
      by later (Some vs) f g = let same : r.verb ∷ vs ≡ ws = cc in found_here r rs x vs ws rest table.each.0.0 table.each.0.1 f same

  pub one_of_format : (rows : List (Row A)) → IsTable rows → IsFormat (one_of rows)
  one_of_format rows table = record {
    again = λ x ws rest e. let f = found_by rows table x ws rest e in ap (λ v. read_first rows (v ++ rest)) f.is ∙ f.reads;
    plain = λ x ws e. let f = found_by rows table x ws [] e in subst ArePlain (sym f.is) f.plain;
  }
