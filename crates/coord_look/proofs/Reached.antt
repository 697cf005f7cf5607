-- Those that are reached over links.
use Rattle.std.proofs.Common.{◌≡◌, ◌⊎◌, ◌↔◌, ℕ, ◌+◌, ◌<◌, ◌≤◌, ◌&&◌, not, eqb, Bool, false, true, List, [], ◌∷◌, ◌++◌, Option, Some, None, find, cond, refl, sym, ap, subst, ◌∙◌, arith, inl, inr, if◌then◌else◌, ◌==◌, ◌||◌}
use Rattle.std.specs.Bool.{beq}
use Rattle.std.proofs.lemmas.Bool.Decides.{nat_tests}
use Rattle.coord_types.specs.NodeSet.{NodeSet, contains, empty, insert}
use Rattle.coord_types.proofs.Sets.{contains-empty, contains-insert}
use Rattle.coord_view.specs.declared.view.LinkView.{LinkView}
use Rattle.coord_member.specs.NoMix.{IsOneOf}
use Rattle.coord_look.specs.Reading.{AreConnected, AreLinked, IsWay, crosses}

-- ---- a link that crosses

abbrev inside : NodeSet → LinkView → Bool
inside s l = contains s l.a && contains s l.b

-- how many links are not inside
abbrev pub outside : NodeSet → List LinkView → ℕ
outside s [] = 0
outside s (l ∷ links) = (if inside s l then 0 else 1) + outside s links

abbrev pub IsIn : NodeSet → NodeSet → Type 0
IsIn s t = (v : ℕ) → contains s v ≡ true → contains t v ≡ true

both : (a b : Bool) → (a && b) ≡ true → (a ≡ true) × (b ≡ true)
both true b e = (refl, e)
both false b e = absurd (cc)

inside_more : (s t : NodeSet) (l : LinkView) → IsIn s t → inside s l ≡ true → inside t l ≡ true
inside_more s t l more is = let ends = both (contains s l.a) (contains s l.b) is in ap (λ b. b && contains t l.b) (more l.a ends.0) ∙ more l.b ends.1

one_less : (b c : Bool) → (b ≡ true → c ≡ true) → (if c then 0 else 1) ≤ (if b then 0 else 1)
one_less true c more = subst (λ c. (if c then 0 else 1) ≤ 0) (sym (more refl)) (omega arith)
one_less false true more = omega arith
one_less false false more = omega arith

no_more_outside : (s t : NodeSet) (links : List LinkView) → IsIn s t → outside t links ≤ outside s links
no_more_outside s t [] more = omega arith
no_more_outside s t (l ∷ links) more =
    let first = one_less (inside s l) (inside t l) (λ is. inside_more s t l more is) in
    let rest = no_more_outside s t links more in
    omega (arith, first, rest)

came_inside : (b c : Bool) → b ≡ false → c ≡ true → (if c then 0 else 1) + 1 ≤ (if b then 0 else 1)
came_inside true c e f = absurd (cc)
came_inside false true e f = omega arith
came_inside false false e f = absurd (cc)

fewer_outside : (s t : NodeSet) (links : List LinkView) (l : LinkView) → IsIn s t → IsOneOf l links → inside s l ≡ false → inside t l ≡ true → outside t links < outside s links
fewer_outside s t [] l more none out in_t = absurd none
fewer_outside s t (k ∷ links) l more (inl same) out in_t =
    let first = came_inside (inside s k) (inside t k) (subst (λ n. inside s n ≡ false) same out) (subst (λ n. inside t n ≡ true) same in_t) in
    let rest = no_more_outside s t links more in
    omega (arith, first, rest)
fewer_outside s t (k ∷ links) l more (inr later) out in_t =
    let first = one_less (inside s k) (inside t k) (λ is. inside_more s t k more is) in
    let rest = fewer_outside s t links l more later out in_t in
    omega (arith, first, rest)

-- the link that is found, or that none is
pub found_is : {A : Type 0} (p : A → Bool) (links : List A) (l : A) → find p links ≡ Some l → IsOneOf l links × (p l ≡ true)
found_is p [] l e = absurd (cc)
found_is p (k ∷ links) l e = of (p k) refl e (found_is p links l)
  where
    of : (b : Bool) → p k ≡ b → cond b (Some k) (find p links) ≡ Some l → (find p links ≡ Some l → IsOneOf l links × (p l ≡ true)) → IsOneOf l (k ∷ links) × (p l ≡ true)
    of true test f rest = let same : k ≡ l = cc in (inl (sym same), subst (λ n. p n ≡ true) same test)
    of false test f rest = let found = rest f in (inr found.0, found.1)

pub none_is : {A : Type 0} (p : A → Bool) (links : List A) → find p links ≡ None → (l : A) → IsOneOf l links → p l ≡ false
none_is p [] e l none = absurd none
none_is p (k ∷ links) e l one = of (p k) refl e one (λ none. none_is p links none l)
  where
    of : (b : Bool) → p k ≡ b → cond b (Some k) (find p links) ≡ None → IsOneOf l (k ∷ links) → (find p links ≡ None → IsOneOf l links → p l ≡ false) → p l ≡ false
    of true test f g rest = absurd (cc)
    of false test f (inl same) rest = subst (λ n. p n ≡ false) (sym same) test
    of false test f (inr later) rest = rest f later

-- ---- one more link

abbrev pub with_ends : NodeSet → LinkView → NodeSet
with_ends s l = insert (insert s l.a) l.b

pub more_with_ends : (s : NodeSet) (l : LinkView) → IsIn s (with_ends s l)
more_with_ends s l v is = grind (arith, nat_tests, contains-insert (insert s l.a) l.b v, contains-insert s l.a v, is)

has_ends : (s : NodeSet) (l : LinkView) → inside (with_ends s l) l ≡ true
has_ends s l = grind (arith, nat_tests, contains-insert (insert s l.a) l.b l.a, contains-insert s l.a l.a, contains-insert (insert s l.a) l.b l.b)

crossing_out : (s : NodeSet) (l : LinkView) → crosses s l ≡ true → inside s l ≡ false
crossing_out s l = of (contains s l.a) (contains s l.b)
  where
    of : (a b : Bool) → not (beq a b) ≡ true → (a && b) ≡ false
    of true true e = absurd (cc)
    of true false e = refl
    of false b e = refl

pub smaller : (s : NodeSet) (links : List LinkView) (l : LinkView) → find (crosses s) links ≡ Some l → outside (with_ends s l) links < outside s links
smaller s links l e = let is = found_is (crosses s) links l e in fewer_outside s (with_ends s l) links l (more_with_ends s l) is.0 (crossing_out s l is.1) (has_ends s l)

-- ---- ways

longer : (links : List LinkView) (u x y : ℕ) (way : List ℕ) → IsWay links u way x → AreLinked links x y → IsWay links u (way ++ y ∷ []) y
longer links u x y [] same one = (subst (λ n. AreLinked links n y) (sym same) one, refl)
longer links u x y (z ∷ way) ways one = (ways.0, longer links z x y way ways.1 one)

-- what holds whenever a link is looked for
pub record Reaches (links : List LinkView) (u : ℕ) (s : NodeSet) : Type 0 where
  pub itself : contains s u ≡ true
  pub ways : (v : ℕ) → contains s v ≡ true → (way : List ℕ) × IsWay links u way v

pub reaches_itself : (links : List LinkView) (u : ℕ) → Reaches links u (insert empty u)
reaches_itself links u = record {
  itself = grind (arith, nat_tests, contains-insert empty u u);
  ways = λ v is. ([], grind (arith, nat_tests, contains-insert empty u v, contains-empty v, is));
}

-- a node that is reached with one more link was reached, or is one of its ends
with_ends_is : (s : NodeSet) (l : LinkView) (v : ℕ) → contains (with_ends s l) v ≡ true → (contains s v ≡ true) ⊎ ((v ≡ l.a) ⊎ (v ≡ l.b))
with_ends_is s l v is = of (contains s v) (eqb v l.a) (eqb v l.b) refl refl refl
  where
    of : (a b c : Bool) → contains s v ≡ a → eqb v l.a ≡ b → eqb v l.b ≡ c → (contains s v ≡ true) ⊎ ((v ≡ l.a) ⊎ (v ≡ l.b))
    of true b c e f g = inl e
    of false true c e f g = inr (inl (grind (arith, nat_tests, f)))
    of false false true e f g = inr (inr (grind (arith, nat_tests, g)))
    of false false false e f g = absurd (grind (arith, nat_tests, contains-insert (insert s l.a) l.b v, contains-insert s l.a v, is, e, f, g))

pub reaches_more : (links : List LinkView) (u : ℕ) (s : NodeSet) (l : LinkView) → find (crosses s) links ≡ Some l → Reaches links u s → Reaches links u (with_ends s l)
reaches_more links u s l e reaches = record { itself = more_with_ends s l u reaches.itself; ways = λ v is. of v (with_ends_is s l v is) }
  where
    known : IsOneOf l links × (crosses s l ≡ true)
    known = found_is (crosses s) links l e

    over : (a b : Bool) → contains s l.a ≡ a → contains s l.b ≡ b → not (beq a b) ≡ true → (v : ℕ) → (v ≡ l.a) ⊎ (v ≡ l.b) → (way : List ℕ) × IsWay links u way v
    over true b here there test v (inl at) = reaches.ways v (ap (λ n. contains s n) at ∙ here)
    over true b here there test v (inr at) =
        let way = reaches.ways l.a here in
        (way.0 ++ v ∷ [], longer links u l.a v way.0 way.1 (record { link = l; shown = known.0; ends = inl (refl, sym at) }))
    over false true here there test v (inr at) = reaches.ways v (ap (λ n. contains s n) at ∙ there)
    over false true here there test v (inl at) =
        let way = reaches.ways l.b there in
        (way.0 ++ v ∷ [], longer links u l.b v way.0 way.1 (record { link = l; shown = known.0; ends = inr (sym at, refl) }))
    over false false here there test v at = absurd (cc)

    of : (v : ℕ) → (contains s v ≡ true) ⊎ ((v ≡ l.a) ⊎ (v ≡ l.b)) → (way : List ℕ) × IsWay links u way v
    of v (inl was) = reaches.ways v was
    of v (inr at) = over (contains s l.a) (contains s l.b) refl refl known.1 v at

-- ---- if no link crosses, all are reached

same_side : (a b : Bool) → not (beq a b) ≡ false → a ≡ b
same_side true true e = refl
same_side true false e = absurd (cc)
same_side false true e = absurd (cc)
same_side false false e = refl

along : (links : List LinkView) (s : NodeSet) (u v : ℕ) (way : List ℕ) → ((l : LinkView) → IsOneOf l links → crosses s l ≡ false) → contains s u ≡ true → IsWay links u way v → contains s v ≡ true
along links s u v [] closed here same = subst (λ n. contains s n ≡ true) same here
along links s u v (x ∷ way) closed here ways = along links s x v way closed (of one.ends) ways.1
  where
    one : AreLinked links u x
    one = ways.0

    side : contains s one.link.a ≡ contains s one.link.b
    side = same_side (contains s one.link.a) (contains s one.link.b) (closed one.link one.shown)

    of : ((one.link.a ≡ u) × (one.link.b ≡ x)) ⊎ ((one.link.a ≡ x) × (one.link.b ≡ u)) → contains s x ≡ true
    of (inl e) = ap (λ n. contains s n) (sym e.1) ∙ (sym side ∙ (ap (λ n. contains s n) e.0 ∙ here))
    of (inr e) = ap (λ n. contains s n) (sym e.0) ∙ (side ∙ (ap (λ n. contains s n) e.1 ∙ here))

pub all_reached : (links : List LinkView) (u : ℕ) (s : NodeSet) → find (crosses s) links ≡ None → Reaches links u s → AreConnected links u s
all_reached links u s none reaches v = (reaches.ways v, λ way. along links s u v way.0 (none_is (crosses s) links none) reaches.itself way.1)
