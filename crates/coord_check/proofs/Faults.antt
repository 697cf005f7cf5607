-- The faults of a world: when there is none, the first fault of many places in turn, and that each fails at the
-- reported place.
use Rattle.std.proofs.Common.{◌≡◌, ℕ, zero, suc, ◌+◌, ◌-◌, ◌<◌, ◌≤◌, Bool, true, false, List, [], ◌∷◌, ◌++◌, refl, sym, ap, ◌∙◌, ◌⊎◌, inl, inr, arith, Option, Some, None, length, get_or, drop, if◌then◌else◌, IfSome}
use Rattle.std.specs.List.{AllByRecursion, flat_map, range_with_len}
use Rattle.std.proofs.lemmas.List.{drop_more}
use Rattle.coord_types.specs.Numbers.{numbers}
use Rattle.coord_check.specs.declared.violation.Letter.{Letter}
use Rattle.coord_check.specs.declared.violation.Violation.{Violation}
use Rattle.coord_check.specs.Faults.{nodes_from, fault_unless, link_letters, first, holds_of, link_holds, end_faults, letter_faults, link_faults, Fails, FailsAt, node_faults, faults_from, faults}
use Rattle.coord_types.specs.declared.limits.TheConstants.{MAX_NODES}
use Rattle.coord_types.proofs.Numbers.{no_more_numbers, numbers_next}
use Rattle.coord_link.specs.LaneMachine.{Lane, transit}
use Rattle.coord_world.specs.Facade.{World, is_linked, lane_at, link, transit_or_none, view, InRange}
use Rattle.coord_check.specs.LinkEnds.{link_end, end_at, lane_or_none, seen}
use Rattle.coord_check.specs.declared.link_end.LinkEnd.{LinkEnd}
use Rattle.coord_types.specs.Table.{has}
use Rattle.coord_world.proofs.Facade.{lane-mirrored}
use Rattle.coord_check.specs.declared.violation.Letter.TheVariants as letter

-- ---- no fault

pub unreported : (b : Bool) (v : Violation) → fault_unless b v ≡ [] → b ≡ true
unreported true v is = refl
unreported false v is = cc

pub not_reported : (b : Bool) (v : Violation) → b ≡ true → fault_unless b v ≡ []
not_reported true v is = refl
not_reported false v is = cc

pub both_empty : {X : Type 0} (xs ys : List X) → xs ++ ys ≡ [] → (xs ≡ []) × (ys ≡ [])
both_empty [] ys is = (refl, is)
both_empty (x ∷ xs) ys is = cc

pub empty_both : {X : Type 0} (xs ys : List X) → xs ≡ [] → ys ≡ [] → xs ++ ys ≡ []
empty_both xs ys e d = ap (λ l. l ++ ys) e ∙ d

pub lesser_or_same : (u v : ℕ) → u ≤ v → (u ≡ v) ⊎ (u < v)
lesser_or_same u v le = grind arith

module _ {X : Type 0} (f : ℕ → List X) where
  range_empty : (u n : ℕ) → flat_map f (range_with_len u n) ≡ [] → (v : ℕ) → u ≤ v → v < u + n → f v ≡ []
  range_empty u zero is v le lt = absurd (omega arith)
  range_empty u (suc n) is v le lt =
      let parts : (f u ≡ []) × (flat_map f (range_with_len (u + 1) n) ≡ []) = both_empty (f u) (flat_map f (range_with_len (u + 1) n)) is in
      elim (lesser_or_same u v le) [ inl e ↦ ap f (sym e) ∙ parts.0 | inr above ↦ range_empty (u + 1) n parts.1 v (omega arith) (omega arith) ]

  empty_range : (u n : ℕ) → ((v : ℕ) → u ≤ v → v < u + n → f v ≡ []) → flat_map f (range_with_len u n) ≡ []
  empty_range u zero all = refl
  empty_range u (suc n) all = empty_both (f u) (flat_map f (range_with_len (u + 1) n)) (all u (omega arith) (omega arith)) (empty_range (u + 1) n (λ v le lt. all v (omega arith) (omega arith)))

  pub none_reported : (u : ℕ) → flat_map f (nodes_from u) ≡ [] → (v : ℕ) → u ≤ v → v ≤ 64 → f v ≡ []
  unfolding numbers
  none_reported u is v le lt = range_empty u (65 - u) is v le (omega arith)

  pub report_none : (u : ℕ) → ((v : ℕ) → u ≤ v → v ≤ 64 → f v ≡ []) → flat_map f (nodes_from u) ≡ []
  unfolding numbers
  report_none u all = empty_range u (65 - u) (λ v le lt. all v le (omega arith))

module _ {X : Type 0} (f : Letter → List X) where
  each_empty : (xs : List Letter) → flat_map f xs ≡ [] → AllByRecursion (λ x. f x ≡ []) xs
  each_empty [] is = tt
  each_empty (x ∷ xs) is = let parts = both_empty (f x) (flat_map f xs) is in (parts.0, each_empty xs parts.1)

  -- a fault that no letter reports, no letter of a link reports
  pub no_letter : f letter.N ≡ [] → flat_map f link_letters ≡ [] → (x : Letter) → f x ≡ []
  unfolding link_letters
  no_letter none is letter.N = none
  no_letter none is letter.A = (each_empty link_letters is).0
  no_letter none is letter.B = (each_empty link_letters is).1.0
  no_letter none is letter.C = (each_empty link_letters is).1.1.0
  no_letter none is letter.D = (each_empty link_letters is).1.1.1.0
  no_letter none is letter.E = (each_empty link_letters is).1.1.1.1.0
  no_letter none is letter.F = (each_empty link_letters is).1.1.1.1.1.0
  no_letter none is letter.G = (each_empty link_letters is).1.1.1.1.1.1.0
  no_letter none is letter.H = (each_empty link_letters is).1.1.1.1.1.1.1.0

  flat_nothing : (xs : List Letter) → ((x : Letter) → f x ≡ []) → flat_map f xs ≡ []
  flat_nothing [] all = refl
  flat_nothing (x ∷ xs) all = empty_both (f x) (flat_map f xs) (all x) (flat_nothing xs all)

  pub letters_none : ((x : Letter) → f x ≡ []) → flat_map f link_letters ≡ []
  letters_none all = flat_nothing link_letters all

-- ---- the first of many places

-- a list with a first element has that one before another list too; one with none is empty
pub first_here : {X : Type 0} (xs ys : List X) (x : X) → first xs ≡ Some x → first (xs ++ ys) ≡ Some x
first_here [] ys x is = cc
first_here (y ∷ xs) ys x is = is

pub no_first : {X : Type 0} (xs : List X) → first xs ≡ None → xs ≡ []
no_first [] is = refl
no_first (x ∷ xs) is = cc

pub first_further : {X : Type 0} (xs ys : List X) → first xs ≡ None → first (xs ++ ys) ≡ first ys
first_further xs ys none = ap (λ l. first (l ++ ys)) (no_first xs none)

module _ {X : Type 0} (f : ℕ → List X) (u : ℕ) where
  pub passed : u ≤ MAX_NODES → first (f u) ≡ None → first (flat_map f (nodes_from (u + 1))) ≡ first (flat_map f (nodes_from u))
  passed le none = sym (ap (λ us. first (flat_map f us)) (numbers_next MAX_NODES u le) ∙ first_further (f u) (flat_map f (nodes_from (u + 1))) none)

  pub met : (x : X) → u ≤ MAX_NODES → first (f u) ≡ Some x → first (flat_map f (nodes_from u)) ≡ Some x
  met x le is = ap (λ us. first (flat_map f us)) (numbers_next MAX_NODES u le) ∙ first_here (f u) (flat_map f (nodes_from (u + 1))) x is

  pub all_passed : MAX_NODES < u → first (flat_map f (nodes_from u)) ≡ None
  all_passed past = ap (λ us. first (flat_map f us)) (no_more_numbers MAX_NODES u past)

module _ {K X : Type 0} (f : K → List X) (ks : List K) (i : ℕ) (d : K) where
  at_place : i < length ks → first (flat_map f (drop i ks)) ≡ first (f (get_or ks i d) ++ flat_map f (drop (i + 1) ks))
  at_place lt = ap (λ l. first (flat_map f l)) (drop_more ks i d lt)

  pub passed_at : i < length ks → first (f (get_or ks i d)) ≡ None → first (flat_map f (drop (i + 1) ks)) ≡ first (flat_map f (drop i ks))
  passed_at lt none = sym (at_place lt ∙ first_further (f (get_or ks i d)) (flat_map f (drop (i + 1) ks)) none)

  pub met_at : (x : X) → i < length ks → first (f (get_or ks i d)) ≡ Some x → first (flat_map f (drop i ks)) ≡ Some x
  met_at x lt is = at_place lt ∙ first_here (f (get_or ks i d)) (flat_map f (drop (i + 1) ks)) x is

-- the messages in transit on a lane, present or not
way_is : (o : Option Lane) → transit_or_none o ≡ transit (lane_or_none o)
way_is None = refl
way_is (Some l) = refl

-- the code's reading of two ends
link_is : (w : World) (u v : ℕ) → link (view w) u v ≡ seen (link_end w u v) (link_end w v u)
link_is w u v i = record { here = end_at (link_end w u v); there = end_at (link_end w v u); out = way_is (lane_at w.links u v) i; back = way_is (lane_at w.links v u) i }

reported_false : (b : Bool) (v : Violation) → b ≡ false → fault_unless b v ≡ v ∷ []
reported_false true v is = cc
reported_false false v is = refl

-- the letters of links, as the code has them
abbrev pub tried : List Letter
tried = letter.A ∷ letter.B ∷ letter.C ∷ letter.D ∷ letter.E ∷ letter.F ∷ letter.G ∷ letter.H ∷ []

pub tried_are : tried ≡ link_letters
unfolding link_letters
tried_are = refl

module _ (w : World) (a b : ℕ) where
  -- the faults of a link that is there
  pub there : is_linked w a b ≡ true → link_faults w a b ≡ flat_map (letter_faults w a b) link_letters
  there is = grind arith

  pub left_is : (i : ℕ) → first (flat_map (letter_faults w a b) (drop i tried)) ≡ first (flat_map (letter_faults w a b) (drop i link_letters))
  left_is i = ap (λ xs. first (flat_map (letter_faults w a b) (drop i xs))) tried_are

  pub none_left : (i : ℕ) → 8 ≤ i → i ≤ 8 → first (flat_map (letter_faults w a b) (drop i link_letters)) ≡ None
  none_left i le ge = let e : i ≡ 8 = omega arith in sym (left_is i) ∙ ap (λ k. first (flat_map (letter_faults w a b) (drop k tried))) e

  module _ (i : ℕ) (lt : i < 8) (x : Letter) (at : get_or tried i letter.N ≡ x) (near far : LinkEnd) (n : near ≡ link_end w a b) (f : far ≡ link_end w b a) where
    here : (t s : Bool) → t ≡ holds_of x near.lane (seen near far) → t ≡ s → link_holds w a b x ≡ s
    here t s e is = ap (holds_of x (link_end w a b).lane) (link_is w a b) ∙ sym (λ j. holds_of x (n j).lane (seen (n j) (f j))) ∙ sym e ∙ is

    back : (t s : Bool) → t ≡ holds_of x far.lane (seen far near) → t ≡ s → link_holds w b a x ≡ s
    back t s e is = ap (holds_of x (link_end w b a).lane) (link_is w b a) ∙ sym (λ j. holds_of x (f j).lane (seen (f j) (n j))) ∙ sym e ∙ is

    met_letter : (v : Violation) → first (letter_faults w a b x) ≡ Some v → first (flat_map (letter_faults w a b) (drop i link_letters)) ≡ Some v
    met_letter v is = sym (left_is i) ∙ met_at (letter_faults w a b) tried i letter.N v lt (ap (λ y. first (letter_faults w a b y)) at ∙ is)

    -- this end sees the letter broken
    pub broken_here : (t : Bool) → t ≡ holds_of x near.lane (seen near far) → t ≡ false → first (flat_map (letter_faults w a b) (drop i link_letters)) ≡ Some (record { a = a; b = b; letter = x })
    broken_here t e is = met_letter _ (ap (λ l. first (l ++ end_faults w b a x)) (reported_false _ _ (here t false e is)))

    -- the other end alone does
    pub broken_back : (t s : Bool) → t ≡ holds_of x near.lane (seen near far) → t ≡ true → s ≡ holds_of x far.lane (seen far near) → s ≡ false → first (flat_map (letter_faults w a b) (drop i link_letters)) ≡ Some (record { a = b; b = a; letter = x })
    broken_back t s e not_here d is =
        met_letter _ (ap (λ l. first (l ++ end_faults w b a x)) (not_reported _ _ (here t true e not_here)) ∙ ap first (reported_false _ _ (back s false d is)))

    -- both have none
    pub unbroken_letter : (t s : Bool) → t ≡ holds_of x near.lane (seen near far) → t ≡ true → s ≡ holds_of x far.lane (seen far near) → s ≡ true → first (flat_map (letter_faults w a b) (drop (i + 1) link_letters)) ≡ first (flat_map (letter_faults w a b) (drop i link_letters))
    unbroken_letter t s e not_here d not_back =
        let none : first (letter_faults w a b x) ≡ None = ap (λ l. first (l ++ end_faults w b a x)) (not_reported _ _ (here t true e not_here)) ∙ ap first (not_reported _ _ (back s true d not_back)) in
        sym (left_is (i + 1)) ∙ passed_at (letter_faults w a b) tried i letter.N lt (ap (λ y. first (letter_faults w a b y)) at ∙ none) ∙ left_is i

-- ---- each fails at the reported place

module _ {X : Type 0} (P : X → Type 0) where
  all_append : (xs ys : List X) → AllByRecursion P xs → AllByRecursion P ys → AllByRecursion P (xs ++ ys)
  all_append [] ys left right = right
  all_append (x ∷ xs) ys left right = (left.0, all_append xs ys left.1 right)

  all_flat : {K : Type 0} (f : K → List X) (ks : List K) → ((k : K) → AllByRecursion P (f k)) → AllByRecursion P (flat_map f ks)
  all_flat f [] each = tt
  all_flat f (k ∷ ks) each = all_append (f k) (flat_map f ks) (each k) (all_flat f ks each)

  all_where : (t : Bool) (xs : List X) → (t ≡ true → AllByRecursion P xs) → AllByRecursion P (if t then xs else [])
  all_where true xs all = all refl
  all_where false xs all = tt

  of_first : (xs : List X) → AllByRecursion P xs → IfSome (first xs) P
  of_first [] all = tt
  of_first (x ∷ xs) all = all.0

-- a reported predicate fails
all_reported : (P : Violation → Type 0) (t : Bool) (v : Violation) → (t ≡ false → P v) → AllByRecursion P (fault_unless t v)
all_reported P true v fails = tt
all_reported P false v fails = (fails refl, tt)

module _ (w : World) (range : InRange w) where
  -- a letter that fails at a link
  at_link : (u v : ℕ) → is_linked w u v ≡ true → (x : Letter) → link_holds w u v x ≡ false → FailsAt w u v x
  at_link u v h1 x h2 = grind arith

  end_fails : (u v : ℕ) → is_linked w u v ≡ true → (x : Letter) → AllByRecursion (Fails w) (end_faults w u v x)
  end_fails u v is x = all_reported (Fails w) (link_holds w u v x) (record { a = u; b = v; letter = x }) (at_link u v is x)

  link_fails : (a b : ℕ) → AllByRecursion (Fails w) (link_faults w a b)
  link_fails a b = all_where (Fails w) (is_linked w a b) (flat_map (letter_faults w a b) link_letters) (λ is.
      all_flat (Fails w) (letter_faults w a b) link_letters (λ x.
      all_append (Fails w) (end_faults w a b x) (end_faults w b a x) (end_fails a b is x) (end_fails b a (sym (lane-mirrored w.links a b) ∙ is) x)))

  node_fails : (u : ℕ) → AllByRecursion (Fails w) (node_faults w u)
  node_fails u = all_where (Fails w) (has w.nodes u) _ (λ there. all_reported (Fails w) _ (record { a = u; b = u; letter = letter.N }) (λ fails. (refl, there, fails)))

  all_fail : AllByRecursion (Fails w) (faults w)
  all_fail = all_append (Fails w) (flat_map (node_faults w) (nodes_from 1)) (flat_map (faults_from w) (nodes_from 1))
      (all_flat (Fails w) (node_faults w) (nodes_from 1) node_fails)
      (all_flat (Fails w) (faults_from w) (nodes_from 1) (λ a. all_flat (Fails w) (link_faults w a) (nodes_from (a + 1)) (link_fails a)))

  -- the first fault names what fails
  pub first_fails : (o : Option Violation) → o ≡ first (faults w) → IfSome o (Fails w)
  first_fails o is = rw is (of_first (Fails w) (faults w) all_fail)
