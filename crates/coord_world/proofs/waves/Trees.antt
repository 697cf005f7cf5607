-- The trees of overlapping resets: each start plants a tree, each finish of an initiator fells one, and no node is signalled more often than its trees are felled.
use Rattle.std.proofs.Common.{◌≡◌, ◌≢◌, ◌⊎◌, ℕ, ◌≤◌, ◌+◌, Bool, true, false, not, ◌||◌, List, [], ◌∷◌, Some, None, refl, sym, ap, ◌∙◌, subst, inl, inr, arith, eqb, cond, count_by, length}
use Rattle.std.proofs.lemmas.Bool.Decides.{nat_tests, eqb_tells}
use Rattle.coord_types.specs.Facade.{Ideal, NodeState, contains}
use Rattle.coord_types.specs.declared.messages.Mode.TheVariants.{Abort, Converge}
use Rattle.coord_types.specs.declared.steps.Kind.{Kind}
use Rattle.coord_node.specs.Rules.{is_empty, is_parent}
use Rattle.coord_tables.proofs.Cases.{by_test, same_or_apart, everywhere}
use Rattle.coord_world.specs.Facade.{is_ready}
use Rattle.coord_world.specs.protocol.Links.{aborts, is_abort, one}
use Rattle.coord_world.proofs.legal.Sound.{Sound}
use Rattle.coord_world.proofs.lists.NodeSets.{empty_has}
use Rattle.coord_world.proofs.waves.Effect.{Effect, Elsewhere, Finishes, Hears, Reaches, SamePlace, Signals, Silent, Starts, Tops, Turns}
use Rattle.coord_world.proofs.waves.Modes.{busy, child_busy, sender_aborts}
use Rattle.coord_world.proofs.waves.Spread.{among}

-- ---- the nodes that a reset has reached

-- x is u, or its parent is in the list
abbrev pub IsUnder : Ideal → ℕ → List ℕ → ℕ → Type 0
IsUnder z u xs x = (x ≡ u) ⊎ ((p : ℕ) × ((z.state x).parent ≡ Some p) × (among xs p ≡ true))

-- the nodes that a reset from u has reached, the newest first: each one's parent was reached before it
abbrev pub Reached : Ideal → ℕ → List ℕ → Type 0
Reached z u [] = Unit {0}
Reached z u (x ∷ xs) = IsUnder z u xs x × Reached z u xs

-- each node of the list is u or has its parent in it
under : (z : Ideal) (u : ℕ) (xs : List ℕ) → Reached z u xs → (x : ℕ) → among xs x ≡ true → IsUnder z u xs x
under z u [] reached x h = cc
under z u (y ∷ xs) reached x h = elim (eqb_tells x y) [
  | inl same ↦ more (subst (IsUnder z u xs) (sym same.1) reached.0)
  | inr apart ↦ more (under z u xs reached.1 x (grind (arith, apart.0, h)))
]
  where
    more : IsUnder z u xs x → IsUnder z u (y ∷ xs) x
    more known = elim known [ inl is_u ↦ inl is_u | inr from ↦ inr (from.0, from.1, grind (arith, from.2)) ]

-- the list is unchanged if the parents of its nodes are
reached_same : (z y : Ideal) (u : ℕ) (xs : List ℕ) → ((x : ℕ) → among xs x ≡ true → x ≢ u → (y.state x).parent ≡ (z.state x).parent) → Reached z u xs → Reached y u xs
reached_same z y u [] same reached = tt
reached_same z y u (x ∷ xs) same reached = (again, reached_same z y u xs (λ q h far. same q (grind (arith, h)) far) reached.1)
  where
    again : IsUnder y u xs x
    again = elim (same_or_apart x u) [
      | inl is_u ↦ inl is_u
      | inr far ↦ elim reached.0 [ inl is_u ↦ inl is_u | inr from ↦ inr (from.0, same x (grind (arith, nat_tests)) far ∙ from.1, from.2) ]
    ]

-- where u awaits nobody, nobody that was reached does
module _ (y : Ideal) (u : ℕ) (sound : Sound y) (top : is_empty (y.state u).pend ≡ true) where
  -- a node whose parent awaits nobody awaits nobody
  below : (x p : ℕ) → (y.state x).parent ≡ Some p → is_empty (y.state p).pend ≡ true → is_empty (y.state x).pend ≡ true
  below x p up none = grind (arith, nat_tests, up, none, empty_has (y.state p).pend x none)

  -- down the list
  pub quiet : (xs : List ℕ) → Reached y u xs → (x : ℕ) → among xs x ≡ true → is_empty (y.state x).pend ≡ true
  quiet [] reached x h = cc
  quiet (q ∷ xs) reached x h = elim (eqb_tells x q) [
    | inl same ↦ rw same.1 (elim reached.0 [
      | inl is_u ↦ rw is_u top
      | inr from ↦ below q from.0 from.1 (quiet xs reached.1 from.0 from.2)
    ])
    | inr apart ↦ quiet xs reached.1 x (grind (arith, apart.0, h))
  ]

-- ---- one tree

-- a reset that was started at a node u of the part, which awaits somebody still, and has reached the nodes xs
pub record Grown (part : ℕ → Bool) (z : Ideal) (u : ℕ) (xs : List ℕ) : Type 0 where
  pub root : part u ≡ true
  pub inside : (x : ℕ) → among xs x ≡ true → part x ≡ true
  pub top : (z.state u).mode ≡ Abort
  pub no_parent : (z.state u).parent ≡ None
  pub reached : Reached z u xs
  -- a node of it that has acknowledged to its parent has no Abort on the way from there
  pub held : (x p : ℕ) → among xs x ≡ true → (z.state x).mode ≡ Converge → (z.state x).parent ≡ Some p → aborts (z.in_transit p x) ≡ 0

module _ (part : ℕ → Bool) (z : Ideal) (u : ℕ) (xs : List ℕ) (sound : Sound z) (grown : Grown part z u xs) where
  -- a node of the tree isn't Ready
  member_busy : (x : ℕ) → among xs x ≡ true → is_ready (z.state x).mode ≡ false
  member_busy x h = elim (under z u xs grown.reached x h) [
    | inl is_u ↦ rw is_u (ap is_ready grown.top)
    | inr from ↦ child_busy z sound x from.0 from.1
  ]

  -- the parent of one is in it
  parent_in : (x p : ℕ) → among xs x ≡ true → (z.state x).parent ≡ Some p → among xs p ≡ true
  parent_in x p h up = elim (under z u xs grown.reached x h) [
    | inl is_u ↦ absurd (let none = subst (λ q. (z.state q).parent ≡ None) (sym is_u) grown.no_parent in cc)
    | inr from ↦ let same : p ≡ from.0 = cc (up, from.1) in rw same from.2
  ]

  -- a node of it without a parent is u
  top_is : (t : ℕ) → (z.state t).parent ≡ None → among xs t ≡ true → t ≡ u
  top_is t none h = elim (under z u xs grown.reached t h) [ inl is_u ↦ is_u | inr from ↦ absurd (let some = from.1 in cc) ]

  -- no node of it hears a Ready from its parent
  not_heard : (t v : ℕ) → Hears z t v → among xs t ≡ true → ⊥
  not_heard t v hears h =
      let above = member_busy v (parent_in t v h hears.parent) in
      let none = grown.held t v h hears.was hears.parent in
      let near = sym (sound.mirrored t v) ∙ hears.near in
      let ways = sound.links v t near in
      let came = hears.came in
      let child : is_parent (z.state t).parent v ≡ true = grind (arith, nat_tests, hears.parent) in
      grind (arith, nat_tests, above, none, ways.one_parent, ways.no_ready, came, child)

  -- where each node of it stays in its place, and gets no Abort from its parent
  stays : (y : Ideal) → SamePlace (z.state u) (y.state u) → ((x : ℕ) → among xs x ≡ true → SamePlace (z.state x) (y.state x)) →
      ((x p : ℕ) → among xs x ≡ true → among xs p ≡ true → aborts (y.in_transit p x) ≤ aborts (z.in_transit p x)) → Grown part y u xs
  stays y top same fewer = record {
    root = grown.root;
    inside = grown.inside;
    top = top.mode ∙ grown.top;
    no_parent = top.parent ∙ grown.no_parent;
    reached = reached_same z y u xs (λ x h far. (same x h).parent) grown.reached;
    held = λ x p h mode up.
        let was = sym (same x h).parent ∙ up in
        let before = grown.held x p h (sym (same x h).mode ∙ mode) was in
        let now = fewer x p h (parent_in x p h was) in
        omega arith;
  }

  -- if only one node changes, and it is neither u nor in the tree
  stays_far : (y : Ideal) (t : ℕ) → u ≢ t → ((x : ℕ) → among xs x ≡ true → x ≢ t) → ((x : ℕ) → x ≢ t → y.state x ≡ z.state x) →
      ((x p : ℕ) → among xs x ≡ true → among xs p ≡ true → aborts (y.in_transit p x) ≤ aborts (z.in_transit p x)) → Grown part y u xs
  stays_far y t top far elsewhere fewer = stays y (in_place u top) (λ x h. in_place x (far x h)) fewer
    where
      in_place : (x : ℕ) → x ≢ t → SamePlace (z.state x) (y.state x)
      in_place x away = record { mode = ap (λ (r : NodeState). r.mode) (elsewhere x away); parent = ap (λ (r : NodeState). r.parent) (elsewhere x away) }

  -- a Ready node is not u, and not in it
  not_top : (t : ℕ) → is_ready (z.state t).mode ≡ true → u ≢ t
  not_top t ready same = let abort = subst (λ q. (z.state q).mode ≡ Abort) same grown.top in let busy = ap is_ready abort in cc

  not_in : (t : ℕ) → is_ready (z.state t).mode ≡ true → (x : ℕ) → among xs x ≡ true → x ≢ t
  not_in t ready x h same = let busy = subst (λ q. is_ready (z.state q).mode ≡ false) same (member_busy x h) in cc

  -- a node acknowledges to its parent
  turned : (y : Ideal) (t p : ℕ) → Turns z y t p → Grown part y u xs
  turned y t p turns = record {
    root = grown.root;
    inside = grown.inside;
    top = ap (λ (r : NodeState). r.mode) (turns.elsewhere u away) ∙ grown.top;
    no_parent = parent u ∙ grown.no_parent;
    reached = reached_same z y u xs (λ x h far. parent x) grown.reached;
    held = λ x q h mode up. elim (same_or_apart x t) [
      | inl here ↦
          let same : p ≡ q = cc (subst (λ n. (z.state n).parent ≡ Some q) here (sym (parent x) ∙ up), turns.parent) in
          let none = turns.none in
          let now = turns.calm.fewer q x in
          let was : aborts (z.in_transit q x) ≡ 0 = rw here (rw (sym same) none) in
          omega arith
      | inr far ↦
          let was = grown.held x q h (ap (λ (r : NodeState). r.mode) (sym (turns.elsewhere x far)) ∙ mode) (sym (parent x) ∙ up) in
          let now = turns.calm.fewer q x in
          omega arith
    ];
  }
    where
      parent : (x : ℕ) → (y.state x).parent ≡ (z.state x).parent
      parent = everywhere (λ x. (y.state x).parent ≡ (z.state x).parent) t (turns.same_parent ∙ sym turns.parent) (λ x far. ap (λ (r : NodeState). r.parent) (turns.elsewhere x far))

      away : u ≢ t
      away same = let none = subst (λ q. (z.state q).parent ≡ None) same grown.no_parent in let some = turns.parent in cc

  module _ (y : Ideal) (t v : ℕ) (reaches : Reaches z y t v) where
    -- another node is reached
    passed : Grown part y u xs
    passed = stays_far y t (not_top t was) (not_in t was) reaches.elsewhere
        (λ x p h above. let same = ap aborts (reaches.apart p x (not_in t was p above) (not_in t was x h)) in omega arith)
      where
        was : is_ready (z.state t).mode ≡ true
        was = ap is_ready reaches.was

    -- from a node of the tree, which grows
    grows : (part v ≡ true → part t ≡ true) → among xs v ≡ true → Grown part y u (t ∷ xs)
    grows with_v from =
        let before = passed in
        record {
          root = before.root;
          inside = λ x h. elim (same_or_apart x t) [ inl here ↦ rw here (with_v (before.inside v from)) | inr far ↦ before.inside x (grind (arith, nat_tests, h, far)) ];
          top = before.top;
          no_parent = before.no_parent;
          reached = (inr (v, reaches.parent, from), before.reached);
          held = λ x p h mode up. elim (same_or_apart x t) [
            | inl here ↦
                let same : v ≡ p = cc (subst (λ n. (y.state n).parent ≡ Some p) here up, reaches.parent) in
                rw here (rw (sym same) reaches.left)
            | inr far ↦ before.held x p (grind (arith, nat_tests, h, far)) mode up
          ];
        }

-- ---- all trees

-- a reset's first node, and all that it has reached
abbrev pub Tree : Type 0
Tree = ℕ × List ℕ

-- whether a node is in one of these trees
abbrev pub in_trees : List Tree → ℕ → Bool
in_trees [] x = false
in_trees (t ∷ ts) x = among t.1 x || in_trees ts x

-- with t in each tree that has v
abbrev with_child : ℕ → ℕ → List Tree → List Tree
with_child v t [] = []
with_child v t (tree ∷ ts) = (tree.0, cond (among tree.1 v) (t ∷ tree.1) tree.1) ∷ with_child v t ts

-- as many trees
length-with_child : (v t : ℕ) (ts : List Tree) → length (with_child v t ts) ≡ length ts
length-with_child v t [] = refl
length-with_child v t (tree ∷ ts) = let later = length-with_child v t ts in grind (arith, later)

-- who was in one is in one
in-with_child : (v t x : ℕ) (ts : List Tree) → in_trees ts x ≡ true → in_trees (with_child v t ts) x ≡ true
in-with_child v t x [] h = cc
in-with_child v t x (tree ∷ ts) h = let later = in-with_child v t x ts in grind (arith, nat_tests, later, h)

-- t is in one, where v is
child_in : (v t : ℕ) (ts : List Tree) → in_trees ts v ≡ true → in_trees (with_child v t ts) t ≡ true
child_in v t [] h = cc
child_in v t (tree ∷ ts) h = let later = child_in v t ts in grind (arith, nat_tests, later, h)

-- without the trees from t
abbrev felled : ℕ → List Tree → List Tree
felled t [] = []
felled t (tree ∷ ts) = cond (eqb tree.0 t) (felled t ts) (tree ∷ felled t ts)

-- no more trees
length-felled : (t : ℕ) (ts : List Tree) → length (felled t ts) ≤ length ts
length-felled t [] = omega arith
length-felled t (tree ∷ ts) = let later = length-felled t ts in grind (arith, nat_tests, later)

-- if a node is in a tree, there is a tree
pub some_tree : (ts : List Tree) (x : ℕ) → one (in_trees ts x) ≤ length ts
some_tree [] x = omega arith
some_tree (t ∷ ts) x = grind (arith, nat_tests)

module _ (part : ℕ → Bool) where
  abbrev pub AllGrown : Ideal → List Tree → Type 0
  AllGrown z [] = Unit {0}
  AllGrown z (t ∷ ts) = Grown part z t.0 t.1 × AllGrown z ts

  -- each Abort node of the part is in a tree
  pub record Forest (z : Ideal) (ts : List Tree) : Type 0 where
    pub grown : AllGrown z ts
    pub covered : (x : ℕ) → part x ≡ true → is_abort (z.state x).mode ≡ true → in_trees ts x ≡ true

  -- what keeps each tree keeps all
  each : (z y : Ideal) → ((u : ℕ) (xs : List ℕ) → Grown part z u xs → Grown part y u xs) → (ts : List Tree) → AllGrown z ts → AllGrown y ts
  each z y keep [] grown = tt
  each z y keep (t ∷ ts) grown = (keep t.0 t.1 grown.0, each z y keep ts grown.1)

  -- a node that no tree can hold is in none of them
  outside : (z : Ideal) (t : ℕ) → ((u : ℕ) (xs : List ℕ) → Grown part z u xs → among xs t ≡ true → ⊥) → (ts : List Tree) → AllGrown z ts → in_trees ts t ≡ false
  outside z t out [] grown = refl
  outside z t out (tree ∷ ts) grown =
      let later = outside z t out ts grown.1 in
      by_test (among tree.1 t) (λ b. (b || in_trees ts t) ≡ false) (λ h. absurd (out tree.0 tree.1 grown.0 h)) (λ _. later)

  module _ (z y : Ideal) (sound : Sound z) (t v : ℕ) (reaches : Reaches z y t v) (with_v : part v ≡ true → part t ≡ true) where
    -- each tree grows, or stays
    grown-with_child : (ts : List Tree) → AllGrown z ts → AllGrown y (with_child v t ts)
    grown-with_child [] grown = tt
    grown-with_child (tree ∷ ts) grown = (
      by_test (among tree.1 v) (λ b. Grown part y tree.0 (cond b (t ∷ tree.1) tree.1)) (grows part z tree.0 tree.1 sound grown.0 y t v reaches with_v) (λ _. passed part z tree.0 tree.1 sound grown.0 y t v reaches),
      grown-with_child ts grown.1,
    )

  module _ (z y : Ideal) (sound : Sound z) (after : Sound y) (t : ℕ) (finishes : Finishes z y t) (tops : Tops z t) where
    -- one tree less, where t is in one
    fewer : (ts : List Tree) → AllGrown z ts → in_trees ts t ≡ true → length (felled t ts) + 1 ≤ length ts
    fewer [] grown h = cc
    fewer (tree ∷ ts) grown h =
        let less = length-felled t ts in
        by_test (eqb tree.0 t) (λ b. length (cond b (felled t ts) (tree ∷ felled t ts)) + 1 ≤ length (tree ∷ ts))
        (λ _. grind (arith, less))
        (λ far. by_test (among tree.1 t) (λ b. (b || in_trees ts t) ≡ true → length (tree ∷ felled t ts) + 1 ≤ length (tree ∷ ts))
        (λ here _. absurd (let same = top_is part z tree.0 tree.1 sound grown.0 t tops.top here in grind (arith, nat_tests, far, same)))
        (λ _ later. let rest = fewer ts grown.1 later in grind (arith, rest)) h)

    -- the others stay
    grown-felled : (ts : List Tree) → AllGrown z ts → AllGrown y (felled t ts)
    grown-felled [] grown = tt
    grown-felled (tree ∷ ts) grown =
        by_test (eqb tree.0 t) (λ b. AllGrown y (cond b (felled t ts) (tree ∷ felled t ts))) (λ _. grown-felled ts grown.1)
        (λ far. (
          stays_far part z tree.0 tree.1 sound grown.0 y t (λ same. grind (arith, nat_tests, far, same))
              (λ x h same. let top = top_is part z tree.0 tree.1 sound grown.0 t tops.top (subst (λ q. among tree.1 q ≡ true) same h) in grind (arith, nat_tests, far, top))
              finishes.elsewhere (λ x p _ _. finishes.calm.fewer p x),
          grown-felled ts grown.1,
        ))

    -- no node of a tree from t is Abort any more
    settled : (xs : List ℕ) → Grown part z t xs → (x : ℕ) → among xs x ≡ true → is_abort (y.state x).mode ≡ false
    settled xs grown x h =
        let top : is_empty (y.state t).pend ≡ true = (after.nodes t).quiet (ap is_abort finishes.now) in
        let reached = reached_same z y t xs (λ q _ far. ap (λ (r : NodeState). r.parent) (finishes.elsewhere q far)) grown.reached in
        let none = quiet y t after top xs reached x h in
        by_test (is_abort (y.state x).mode) (λ b. b ≡ false) (λ abort. absurd (let some = (after.nodes x).awaits abort in cc)) (λ _. refl)

    -- an Abort node is in one of the others
    in-felled : (ts : List Tree) → AllGrown z ts → (x : ℕ) → is_abort (y.state x).mode ≡ true → in_trees ts x ≡ true → in_trees (felled t ts) x ≡ true
    in-felled [] grown x abort h = cc
    in-felled (tree ∷ ts) grown x abort h =
        let later = in-felled ts grown.1 x abort in
        by_test (eqb tree.0 t) (λ b. in_trees (cond b (felled t ts) (tree ∷ felled t ts)) x ≡ true)
        (λ same. by_test (among tree.1 x) (λ b. (b || in_trees ts x) ≡ true → in_trees (felled t ts) x ≡ true)
        (λ here _. absurd (let root : tree.0 ≡ t = grind (arith, nat_tests, same) in let calm = settled tree.1 (subst (λ q. Grown part z q tree.1) root grown.0) x here in cc))
        (λ _ more. later more) h)
        (λ _. by_test (among tree.1 x) (λ b. (b || in_trees ts x) ≡ true → (b || in_trees (felled t ts) x) ≡ true) (λ _ _. refl) (λ _ more. later more) h)

-- ---- what a step does to them

-- of the node x: each signal, and each reset that it enters, is paid by a tree that is felled, a start, or a dropped link
abbrev pub IsPaid : (ℕ → Bool) → Ideal → Ideal → List Tree → List Tree → (ℕ → ℕ) → List ℕ → ℕ → ℕ → Type 0
IsPaid part z y ts us signals starts drops x = signals x + busy (y.state x) + one (in_trees ts x) + length us ≤ count_by part starts + drops + one (in_trees us x) + length ts + busy (z.state x)

pub record Tends (part : ℕ → Bool) (z y : Ideal) (ts : List Tree) (signals : ℕ → ℕ) (starts : List ℕ) (drops : ℕ) : Type 0 where
  pub trees : List Tree
  pub forest : Forest part y trees
  pub paid : (x : ℕ) → part x ≡ true → IsPaid part z y ts trees signals starts drops x

module _ (part : ℕ → Bool) (z y : Ideal) (ts : List Tree) (signals : ℕ → ℕ) (starts : List ℕ) (drops : ℕ) (sound : Sound z) (forest : Forest part z ts) where
  -- each node of the part stays in its place, no Abort joins those on the way, and no node signals
  pub passing : ((x : ℕ) → part x ≡ true → SamePlace (z.state x) (y.state x)) → ((a b : ℕ) → aborts (y.in_transit a b) ≤ aborts (z.in_transit a b)) → ((x : ℕ) → part x ≡ true → signals x ≡ 0) → Tends part z y ts signals starts drops
  passing same fewer silent = record {
    trees = ts;
    forest = record {
      grown = each part z y (λ u xs grown. stays part z u xs sound grown y (same u grown.root) (λ x h. same x (grown.inside x h)) (λ x p _ _. fewer p x)) ts forest.grown;
      covered = λ x inside h. forest.covered x inside (ap is_abort (sym (same x inside).mode) ∙ h);
    };
    paid = λ x inside. let none = silent x inside in let still = ap (λ m. one (not (is_ready m))) (same x inside).mode in omega arith;
  }

  -- t leaves Ready, and enters trees if it is in the part
  module _ (t : ℕ) (was : is_ready (z.state t).mode ≡ true) (elsewhere : Elsewhere z y t) where
    -- it was in none
    free : in_trees ts t ≡ false
    free = outside part z t (λ u xs grown h. not_in part z u xs sound grown t was t h refl) ts forest.grown

    -- if it enters none
    far_covered : part t ≡ false → (x : ℕ) → part x ≡ true → is_abort (y.state x).mode ≡ true → in_trees ts x ≡ true
    far_covered out x inside h = forest.covered x inside (elim (same_or_apart x t) [
      | inl here ↦ absurd (let in_t = subst (λ q. part q ≡ true) here inside in cc)
      | inr far ↦ ap (λ (r : NodeState). is_abort r.mode) (sym (elsewhere x far)) ∙ h
    ])

  module _ (t v : ℕ) (reaches : Reaches z y t v) (silent : Silent signals) (with_v : part v ≡ part t) where
    -- who was Ready
    was_ready : is_ready (z.state t).mode ≡ true
    was_ready = ap is_ready reaches.was

    -- it enters the sender's
    entered : part t ≡ true → in_trees (with_child v t ts) t ≡ true
    entered inside = child_in v t ts (forest.covered v (with_v ∙ inside) (sender_aborts z sound v t reaches.near reaches.came))

    reaching : Tends part z y ts signals starts drops
    reaching = record {
      trees = with_child v t ts;
      forest = record {
        grown = grown-with_child part z y sound t v reaches (λ h. sym with_v ∙ h) ts forest.grown;
        covered = λ x inside h. elim (same_or_apart x t) [
          | inl here ↦ rw here (entered (subst (λ q. part q ≡ true) here inside))
          | inr far ↦ in-with_child v t x ts (forest.covered x inside (ap (λ (r : NodeState). is_abort r.mode) (sym (reaches.elsewhere x far)) ∙ h))
        ];
      };
      paid = λ x inside.
          let none = silent x in
          let as_many = length-with_child v t ts in
          elim (same_or_apart x t) [
            | inl here ↦
                let before : in_trees ts x ≡ false = rw here (free t was_ready reaches.elsewhere) in
                let now : in_trees (with_child v t ts) x ≡ true = rw here (entered (subst (λ q. part q ≡ true) here inside)) in
                let ready : busy (z.state x) ≡ 0 = rw here (ap (λ m. one (not (is_ready m))) reaches.was) in
                let more : busy (y.state x) ≡ 1 = rw here (ap (λ b. one (not b)) reaches.busy) in
                grind (arith, none, as_many, before, now, ready, more)
            | inr far ↦
                let same = ap busy (reaches.elsewhere x far) in
                let still = in-with_child v t x ts in
                by_test (in_trees ts x) (λ b. signals x + busy (y.state x) + one b + length (with_child v t ts) ≤ count_by part starts + drops + one (in_trees (with_child v t ts) x) + length ts + busy (z.state x))
                (λ h. let there = still h in grind (arith, none, as_many, same, there)) (λ _. omega arith)
          ];
    }

  -- a node acknowledges to its parent
  turning : (t p : ℕ) → Turns z y t p → Silent signals → Tends part z y ts signals starts drops
  turning t p turns silent = record {
    trees = ts;
    forest = record {
      grown = each part z y (λ u xs grown. turned part z u xs sound grown y t p turns) ts forest.grown;
      covered = λ x inside h. forest.covered x inside (elim (same_or_apart x t) [
        | inl here ↦ rw here (ap is_abort turns.was)
        | inr far ↦ ap (λ (r : NodeState). is_abort r.mode) (sym (turns.elsewhere x far)) ∙ h
      ]);
    };
    paid = λ x inside.
        let none = silent x in
        let same : busy (y.state x) ≡ busy (z.state x) = everywhere (λ q. busy (y.state q) ≡ busy (z.state q)) t
        (ap (λ m. one (not (is_ready m))) turns.now ∙ sym (ap (λ m. one (not (is_ready m))) turns.was)) (λ q far. ap busy (turns.elsewhere q far)) x in
        omega arith;
  }

  module _ (t : ℕ) (finishes : Finishes z y t) (signal : Signals signals t) where
    -- an Abort node was one
    aborted : (x : ℕ) → part x ≡ true → is_abort (y.state x).mode ≡ true → in_trees ts x ≡ true
    aborted x inside h = forest.covered x inside (elim (same_or_apart x t) [
      | inl here ↦ absurd (let ready = subst (λ q. is_abort (y.state q).mode ≡ true) here h in let now = ap is_abort finishes.now in cc)
      | inr far ↦ ap (λ (r : NodeState). is_abort r.mode) (sym (finishes.elsewhere x far)) ∙ h
    ])

    -- a signal ends a reset of its node
    spent : (x : ℕ) → signals x + busy (y.state x) ≡ busy (z.state x)
    spent = everywhere (λ q. signals q + busy (y.state q) ≡ busy (z.state q)) t
        (let one_more = signal t in let now = ap is_ready finishes.now in let was = finishes.was in grind (arith, nat_tests, one_more, now, was))
        (λ q far. let none = signal q in let same = ap busy (finishes.elsewhere q far) in grind (arith, nat_tests, none, same, far))

    -- t is in no tree, and is the first node of none
    keeping : ((u : ℕ) (xs : List ℕ) → Grown part z u xs → u ≢ t) → ((u : ℕ) (xs : List ℕ) → Grown part z u xs → among xs t ≡ true → ⊥) → Tends part z y ts signals starts drops
    keeping no_top no_member = record {
      trees = ts;
      forest = record {
        grown = each part z y (λ u xs grown. stays_far part z u xs sound grown y t (no_top u xs grown) (λ x h same. no_member u xs grown (subst (λ q. among xs q ≡ true) same h))
            finishes.elsewhere (λ x p _ _. finishes.calm.fewer p x)) ts forest.grown;
        covered = aborted;
      };
      paid = λ x inside. let once = spent x in omega arith;
    }

    -- the first node of a tree of the part
    felling : Sound y → Tops z t → part t ≡ true → Tends part z y ts signals starts drops
    felling after tops inside_t = record {
      trees = felled t ts;
      forest = record {
        grown = grown-felled part z y sound after t finishes tops ts forest.grown;
        covered = λ x inside h. in-felled part z y sound after t finishes tops ts forest.grown x h (aborted x inside h);
      };
      paid = λ x inside.
          let less = fewer part z y sound after t finishes tops ts forest.grown (forest.covered t inside_t (ap is_abort tops.was)) in
          let once = spent x in
          grind (arith, less, once);
    }

    finishing : Sound y → Tends part z y ts signals starts drops
    finishing after = elim finishes.cause [
      | inl tops ↦ by_test (part t) (λ _. Tends part z y ts signals starts drops) (felling after tops)
          (λ out. keeping (λ u xs grown same. let inside = subst (λ q. part q ≡ true) same grown.root in cc) (λ u xs grown h. let inside = grown.inside t h in cc))
      | inr hears ↦ keeping (λ u xs grown same. let abort = subst (λ q. (z.state q).mode ≡ Abort) same grown.top in let was = hears.1.was in cc)
          (λ u xs grown h. not_heard part z u xs sound grown t hears.0 hears.1 h)
    ]

  module _ (t : ℕ) (start : Starts z y t) (silent : Silent signals) (e : starts ≡ t ∷ []) where
    was_calm : is_ready (z.state t).mode ≡ true
    was_calm = ap is_ready start.was

    -- a new tree
    planted : part t ≡ true → Grown part y t (t ∷ [])
    planted inside = record {
      root = inside;
      inside = λ x h. let here : x ≡ t = grind (arith, nat_tests, h) in rw here inside;
      top = start.now;
      no_parent = start.parent;
      reached = (inl refl, tt);
      held = λ x p h mode up. absurd (let here : x ≡ t = grind (arith, nat_tests, h) in let is = subst (λ q. (y.state q).mode ≡ Converge) here mode in let now = start.now in cc);
    }

    -- the others stay
    old : AllGrown part y ts
    old = each part z y (λ u xs grown. stays_far part z u xs sound grown y t (not_top part z u xs sound grown t was_calm) (not_in part z u xs sound grown t was_calm) start.elsewhere
        (λ x p _ above. let same = ap aborts (start.apart p x (not_in part z u xs sound grown t was_calm p above)) in omega arith)) ts forest.grown

    starting : Tends part z y ts signals starts drops
    starting = by_test (part t) (λ _. Tends part z y ts signals starts drops)
        (λ inside_t. record {
          trees = (t, t ∷ []) ∷ ts;
          forest = record {
            grown = (planted inside_t, old);
            covered = λ x inside h. elim (same_or_apart x t) [
              | inl here ↦ grind (arith, nat_tests, here)
              | inr far ↦ let more = forest.covered x inside (ap (λ (r : NodeState). is_abort r.mode) (sym (start.elsewhere x far)) ∙ h) in grind (arith, nat_tests, more)
            ];
          };
          paid = λ x inside.
              let none = silent x in
              let count : count_by part starts ≡ 1 = rw e (grind (arith, nat_tests, inside_t)) in
              elim (same_or_apart x t) [
                | inl here ↦
                    let before : in_trees ts x ≡ false = rw here (free t was_calm start.elsewhere) in
                    let ready : busy (z.state x) ≡ 0 = rw here (ap (λ m. one (not (is_ready m))) start.was) in
                    let more : busy (y.state x) ≡ 1 = rw here (ap (λ m. one (not (is_ready m))) start.now) in
                    grind (arith, nat_tests, none, count, before, ready, more, here)
                | inr far ↦
                    let same = ap busy (start.elsewhere x far) in
                    grind (arith, nat_tests, none, count, same, far)
              ];
        })
        (λ out. record {
          trees = ts;
          forest = record { grown = old; covered = far_covered t was_calm start.elsewhere out };
          paid = λ x inside.
              let none = silent x in
              let far : x ≢ t = λ here. let inside_t = subst (λ q. part q ≡ true) here inside in cc in
              let same = ap busy (start.elsewhere x far) in
              omega arith;
        })

-- the signals of nodes that have a neighbour
abbrev pub of_linked : Ideal → (ℕ → ℕ) → ℕ → ℕ
of_linked z signals x = cond (is_empty (z.state x).neighbours) 0 (signals x)

-- if all signals are paid, those are
pub linked_paid : (part : ℕ → Bool) (z y : Ideal) (ts : List Tree) (signals : ℕ → ℕ) (starts : List ℕ) (drops : ℕ) → Tends part z y ts signals starts drops → Tends part z y ts (of_linked z signals) starts drops
linked_paid part z y ts signals starts drops tended = record {
  trees = tended.trees;
  forest = tended.forest;
  paid = λ x inside.
      let all = tended.paid x inside in
      let fewer : of_linked z signals x ≤ signals x = by_test (is_empty (z.state x).neighbours) (λ b. cond b 0 (signals x) ≤ signals x) (λ _. omega arith) (λ _. omega arith) in
      omega arith;
}

-- by what the step does
pub tends : (part : ℕ → Bool) (z y : Ideal) (ts : List Tree) (signals : ℕ → ℕ) (starts : List ℕ) (drops : ℕ) (k : Kind) → ((a b : ℕ) → contains (z.state a).neighbours b ≡ true → part a ≡ part b) →
    Sound z → Sound y → Forest part z ts → Effect z y signals starts k → Tends part z y ts (of_linked z signals) starts drops
tends part z y ts signals starts drops k like sound after forest effect = of_effect effect
  where
    less : Tends part z y ts signals starts drops → Tends part z y ts (of_linked z signals) starts drops
    less = linked_paid part z y ts signals starts drops

    of_effect : Effect z y signals starts k → Tends part z y ts (of_linked z signals) starts drops
    of_effect (Effect.passes passes silent e) = less (passing part z y ts signals starts drops sound forest (λ x _. passes.same x) passes.calm.fewer (λ x _. silent x))
    of_effect (Effect.alone t passes lone signal kind e) =
        passing part z y ts (of_linked z signals) starts drops sound forest (λ x _. passes.same x) passes.calm.fewer (λ x _. elim (same_or_apart x t) [
          | inl here ↦ let none = subst (λ q. is_empty (z.state q).neighbours ≡ true) (sym here) lone in grind (arith, none)
          | inr far ↦ let now = signal x in grind (arith, nat_tests, now, far)
        ])
    of_effect (Effect.reaches t v reaches silent e) = less (reaching part z y ts signals starts drops sound forest t v reaches silent (sym (like t v reaches.near)))
    of_effect (Effect.turns t p turns silent e) = less (turning part z y ts signals starts drops sound forest t p turns silent)
    of_effect (Effect.finishes t finishes signal e) = less (finishing part z y ts signals starts drops sound forest t finishes signal after)
    of_effect (Effect.starts_at t start silent e) = less (starting part z y ts signals starts drops sound forest t start silent e)
