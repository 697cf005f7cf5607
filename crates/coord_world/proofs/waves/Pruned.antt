-- The trees of resets after a link is dropped: an Abort node that has lost its parent becomes the first node of another tree.
use Rattle.std.proofs.Common.{◌≡◌, ◌≢◌, ◌⊎◌, ℕ, ◌+◌, ◌≤◌, Bool, true, false, ◌||◌, List, [], ◌∷◌, ◌++◌, Option, Some, None, refl, sym, ap, ◌∙◌, subst, inl, inr, arith, eqb, cond, count_by, length}
use Rattle.std.proofs.lemmas.Bool.Decides.{nat_tests, eqb_tells}
use Rattle.coord_types.specs.Facade.{Ideal, NodeState}
use Rattle.coord_types.specs.declared.messages.Mode.{Mode}
use Rattle.coord_types.specs.declared.messages.Mode.TheVariants.{Ready, Abort, Converge}
use Rattle.coord_node.specs.Rules.{is_empty, is_parent}
use Rattle.coord_tables.proofs.Cases.{by_test, same_or_apart}
use Rattle.coord_world.specs.protocol.Links.{aborts, is_abort, one}
use Rattle.coord_world.proofs.legal.Sound.{Sound}
use Rattle.coord_world.proofs.waves.Cuts.{Cuts, Orphan}
use Rattle.coord_world.proofs.waves.Modes.{busy, mode_is_abort}
use Rattle.coord_world.proofs.waves.Spread.{among}
use Rattle.coord_world.proofs.waves.Trees.{AllGrown, Forest, Grown, IsUnder, Reached, Tends, Tree, in_trees, quiet}

-- ---- lists of reached nodes

-- a node is among two lists if it is among one of them
among-append : (xs ys : List ℕ) (x : ℕ) → among (xs ++ ys) x ≡ (among xs x || among ys x)
among-append [] ys x = refl
among-append (q ∷ xs) ys x = let later = among-append xs ys x in grind (arith, nat_tests, later)

-- two lists of reached nodes, one after the other
reached-append : (z : Ideal) (u : ℕ) (xs ys : List ℕ) → Reached z u xs → Reached z u ys → Reached z u (xs ++ ys)
reached-append z u [] ys first later = later
reached-append z u (x ∷ xs) ys first later = (
  elim first.0 [ inl is_u ↦ inl is_u | inr from ↦ inr (from.0, from.1, among-append xs ys from.0 ∙ grind (arith, nat_tests, from.2)) ],
  reached-append z u xs ys first.1 later,
)

-- whether the parent is in the list
abbrev parent_among : Option ℕ → List ℕ → Bool
parent_among None xs = false
parent_among (Some p) xs = among xs p

-- whether x is u, or its parent is in the list
abbrev is_under : Ideal → ℕ → List ℕ → ℕ → Bool
is_under y u xs x = eqb x u || parent_among (y.state x).parent xs

-- the nodes of the list that are still reached from u
abbrev trim : Ideal → ℕ → List ℕ → List ℕ
trim y u [] = []
trim y u (x ∷ xs) = cond (is_under y u (trim y u xs) x) (x ∷ trim y u xs) (trim y u xs)

module _ (y : Ideal) (u : ℕ) where
  under_is : (xs : List ℕ) (x : ℕ) → is_under y u xs x ≡ true → IsUnder y u xs x
  under_is xs x h = elim (eqb_tells x u) [ inl same ↦ inl same.1 | inr far ↦ of_parent (y.state x).parent refl (grind (arith, h, far.0)) ]
    where
      of_parent : (o : Option ℕ) → (y.state x).parent ≡ o → parent_among o xs ≡ true → IsUnder y u xs x
      of_parent None up in_xs = cc
      of_parent (Some p) up in_xs = inr (p, up, in_xs)

  -- each is u, or its parent was reached before it
  trimmed : (xs : List ℕ) → Reached y u (trim y u xs)
  trimmed [] = tt
  trimmed (x ∷ xs) = by_test (is_under y u (trim y u xs) x) (λ b. Reached y u (cond b (x ∷ trim y u xs) (trim y u xs))) (λ h. (under_is (trim y u xs) x h, trimmed xs)) (λ _. trimmed xs)

  -- each is a node of the list
  in_all : (xs : List ℕ) (x : ℕ) → among (trim y u xs) x ≡ true → among xs x ≡ true
  in_all [] x h = cc
  in_all (q ∷ xs) x h =
      let later = in_all xs x in
      by_test (is_under y u (trim y u xs) q) (λ b. among (cond b (q ∷ trim y u xs) (trim y u xs)) x ≡ true → (eqb x q || among xs x) ≡ true)
      (λ _ first. grind (arith, nat_tests, first, later)) (λ _ rest. let there = later rest in grind (arith, nat_tests, there)) h

  -- a node that is u or has a parent among the later ones is among them
  comes : (xs : List ℕ) (x : ℕ) → is_under y u (trim y u xs) x ≡ true → among (trim y u (x ∷ xs)) x ≡ true
  comes xs x h = subst (λ b. among (cond b (x ∷ trim y u xs) (trim y u xs)) x ≡ true) (sym h) (grind (arith, nat_tests))

  -- a node among the later ones is among them
  stays : (xs : List ℕ) (q x : ℕ) → among (trim y u xs) x ≡ true → among (trim y u (q ∷ xs)) x ≡ true
  stays xs q x h = by_test (is_under y u (trim y u xs) q) (λ b. among (cond b (q ∷ trim y u xs) (trim y u xs)) x ≡ true) (λ _. grind (arith, nat_tests, h)) (λ _. h)

  -- u is under itself
  first_under : (xs : List ℕ) (x : ℕ) → x ≡ u → is_under y u xs x ≡ true
  first_under xs x h1 = grind (arith, nat_tests, h1)

  -- a node with a parent in the list is under u
  child_under : (xs : List ℕ) (x p : ℕ) → (y.state x).parent ≡ Some p → among xs p ≡ true → is_under y u xs x ≡ true
  child_under xs x p h1 h2 = grind (arith, nat_tests, h1, h2)

-- ---- one tree

module _ (part : ℕ → Bool) (z y : Ideal) (signals : ℕ → ℕ) (cuts : Cuts part z y signals) (before : Sound z) (after : Sound y) where
  -- an Abort node has no Abort on the way from its parent
  none_above : (x p : ℕ) → (z.state x).mode ≡ Abort → (z.state x).parent ≡ Some p → aborts (z.in_transit p x) ≡ 0
  none_above x p mode up =
      let child : is_parent (z.state x).parent p ≡ true = grind (arith, nat_tests, up) in
      let near = (before.nodes x).parent_near p child in
      let count = (before.links p x (sym (before.mirrored x p) ∙ near)).counted in
      grind (arith, count, ap is_abort mode, child)

  -- no node of a tree has an Abort on the way from the parent that it still has
  still_held : (u : ℕ) (xs : List ℕ) → Grown part z u xs → (x p : ℕ) → among xs x ≡ true → (y.state x).parent ≡ Some p → aborts (y.in_transit p x) ≡ 0
  still_held u xs grown x p h up =
      let less = cuts.fewer p x in
      let was = cuts.parent x p up in
      let none = in_mode (z.state x).mode refl was in
      omega arith
    where
      in_mode : (m : Mode) → (z.state x).mode ≡ m → (z.state x).parent ≡ Some p → aborts (z.in_transit p x) ≡ 0
      in_mode Ready mode was = absurd (let none = (before.nodes x).no_parent mode in cc)
      in_mode Abort mode was = none_above x p mode was
      in_mode Converge mode was = grown.held x p h mode was

  -- the nodes of a tree that are still reached from its first node are a tree, if that node is Abort
  grown_trim : (u : ℕ) (xs : List ℕ) → Grown part z u xs → is_abort (y.state u).mode ≡ true → Grown part y u (trim y u xs)
  grown_trim u xs grown abort = record {
    root = grown.root;
    inside = λ x h. grown.inside x (in_all y u xs x h);
    top = mode_is_abort (y.state u).mode abort;
    no_parent = of_parent (y.state u).parent refl;
    reached = trimmed y u xs;
    held = λ x p h _ up. still_held u xs grown x p (in_all y u xs x h) up;
  }
    where
      of_parent : (o : Option ℕ) → (y.state u).parent ≡ o → o ≡ None
      of_parent None up = refl
      of_parent (Some p) up = absurd (let was = cuts.parent u p up in let none = grown.no_parent in cc)

  -- if an Abort node is still reached from u, then u is Abort
  top_abort : (u : ℕ) (xs : List ℕ) (x : ℕ) → is_abort (y.state x).mode ≡ true → among (trim y u xs) x ≡ true → is_abort (y.state u).mode ≡ true
  top_abort u xs x abort h = by_test (is_abort (y.state u).mode) (λ b. b ≡ true) (λ _. refl)
      (λ calm. absurd (let none = quiet y u after ((after.nodes u).quiet calm) (trim y u xs) (trimmed y u xs) x h in let some = (after.nodes x).awaits abort in cc))

  -- the parent of an Abort node is Abort
  parent_abort : (x p : ℕ) → is_abort (y.state x).mode ≡ true → (y.state x).parent ≡ Some p → is_abort (y.state p).mode ≡ true
  parent_abort x p abort up = top_abort p (x ∷ p ∷ []) x abort (comes y p (p ∷ []) x (child_under y p (trim y p (p ∷ [])) x p up (comes y p [] p (first_under y p [] p refl))))

  -- if no Abort node has lost its parent, each one is still reached
  abort_stays : ((x : ℕ) → is_abort (y.state x).mode ≡ true → (y.state x).parent ≡ (z.state x).parent) → (u : ℕ) (xs : List ℕ) → Reached z u xs → (x : ℕ) → is_abort (y.state x).mode ≡ true → among xs x ≡ true → among (trim y u xs) x ≡ true
  abort_stays same u [] reached x abort h = cc
  abort_stays same u (q ∷ xs) reached x abort h = elim (eqb_tells x q) [
    | inl here ↦ subst (λ n. among (trim y u (q ∷ xs)) n ≡ true) (sym here.1) (comes y u xs q (elim reached.0 [
      | inl is_u ↦ first_under y u (trim y u xs) q is_u
      | inr from ↦
          let abort_q : is_abort (y.state q).mode ≡ true = subst (λ n. is_abort (y.state n).mode ≡ true) here.1 abort in
          let up = same q abort_q ∙ from.1 in
          child_under y u (trim y u xs) q from.0 up (abort_stays same u xs reached.1 from.0 (parent_abort q from.0 abort_q up) from.2)
    ]))
    | inr far ↦ stays y u xs q x (abort_stays same u xs reached.1 x abort (grind (arith, far.0, h)))
  ]

  -- if c alone has lost its parent, each node is still reached from u, or from c
  each_stays : (c : ℕ) → ((x : ℕ) → x ≢ c → (y.state x).parent ≡ (z.state x).parent) → (u : ℕ) (xs : List ℕ) → Reached z u xs → (x : ℕ) → among xs x ≡ true → (among (trim y u xs) x ≡ true) ⊎ (among (trim y c xs) x ≡ true)
  each_stays c same u [] reached x h = cc
  each_stays c same u (q ∷ xs) reached x h = elim (eqb_tells x q) [
    | inl here ↦ subst (λ n. (among (trim y u (q ∷ xs)) n ≡ true) ⊎ (among (trim y c (q ∷ xs)) n ≡ true)) (sym here.1) (elim reached.0 [
      | inl is_u ↦ inl (comes y u xs q (first_under y u (trim y u xs) q is_u))
      | inr from ↦ elim (same_or_apart q c) [
        | inl is_c ↦ inr (comes y c xs q (first_under y c (trim y c xs) q is_c))
        | inr apart ↦
            let up = same q apart ∙ from.1 in
            elim (each_stays c same u xs reached.1 from.0 from.2) [
              | inl first ↦ inl (comes y u xs q (child_under y u (trim y u xs) q from.0 up first))
              | inr second ↦ inr (comes y c xs q (child_under y c (trim y c xs) q from.0 up second))
            ]
      ]
    ])
    | inr far ↦ elim (each_stays c same u xs reached.1 x (grind (arith, far.0, h))) [
      | inl first ↦ inl (stays y u xs q x first)
      | inr second ↦ inr (stays y c xs q x second)
    ]
  ]

  -- ---- all trees

  -- the trees whose first node is Abort, with the nodes that are still reached
  abbrev pruned : List Tree → List Tree
  pruned [] = []
  pruned (t ∷ ts) = cond (is_abort (y.state t.0).mode) ((t.0, trim y t.0 t.1) ∷ pruned ts) (pruned ts)

  -- the nodes of all trees that are now reached from c
  abbrev branches : ℕ → List Tree → List ℕ
  branches c [] = []
  branches c (t ∷ ts) = trim y c t.1 ++ branches c ts

  -- no more trees
  length-pruned : (ts : List Tree) → length (pruned ts) ≤ length ts
  length-pruned [] = omega arith
  length-pruned (t ∷ ts) = let later = length-pruned ts in by_test (is_abort (y.state t.0).mode) (λ b. length (cond b ((t.0, trim y t.0 t.1) ∷ pruned ts) (pruned ts)) ≤ length (t ∷ ts)) (λ _. grind (arith, later)) (λ _. grind (arith, later))

  grown-pruned : (ts : List Tree) → AllGrown part z ts → AllGrown part y (pruned ts)
  grown-pruned [] grown = tt
  grown-pruned (t ∷ ts) grown = by_test (is_abort (y.state t.0).mode) (λ b. AllGrown part y (cond b ((t.0, trim y t.0 t.1) ∷ pruned ts) (pruned ts)))
      (λ abort. (grown_trim t.0 t.1 grown.0 abort, grown-pruned ts grown.1)) (λ _. grown-pruned ts grown.1)

  -- the tree that begins at c
  module _ (c : ℕ) (inside : part c ≡ true) (abort : (y.state c).mode ≡ Abort) (none : (y.state c).parent ≡ None) where
    in_branches : (ts : List Tree) → AllGrown part z ts → (x : ℕ) → among (branches c ts) x ≡ true → (u : ℕ) × ((xs : List ℕ) × (Grown part z u xs × (among xs x ≡ true)))
    in_branches [] grown x h = cc
    in_branches (t ∷ ts) grown x h = by_test (among (trim y c t.1) x) (λ b. (b || among (branches c ts) x) ≡ true → (u : ℕ) × ((xs : List ℕ) × (Grown part z u xs × (among xs x ≡ true))))
        (λ here _. (t.0, (t.1, (grown.0, in_all y c t.1 x here)))) (λ _ more. in_branches ts grown.1 x more) (sym (among-append (trim y c t.1) (branches c ts) x) ∙ h)

    reached-branches : (ts : List Tree) → Reached y c (branches c ts)
    reached-branches [] = tt
    reached-branches (t ∷ ts) = reached-append y c (trim y c t.1) (branches c ts) (trimmed y c t.1) (reached-branches ts)

    grown-branches : (ts : List Tree) → AllGrown part z ts → Grown part y c (branches c ts)
    grown-branches ts grown = record {
      root = inside;
      inside = λ x h. let from = in_branches ts grown x h in from.1.1.0.inside x from.1.1.1;
      top = abort;
      no_parent = none;
      reached = reached-branches ts;
      held = λ x p h _ up. let from = in_branches ts grown x h in still_held from.0 from.1.0 from.1.1.0 x p from.1.1.1 up;
    }

    -- ---- how many there are, and who is in them

    -- each node stays in a tree, or there is one tree less
    counted : ((x : ℕ) → x ≢ c → (y.state x).parent ≡ (z.state x).parent) → (ts : List Tree) → AllGrown part z ts → (x : ℕ) →
        one (in_trees ts x) + length (pruned ts) ≤ one (among (branches c ts) x || in_trees (pruned ts) x) + length ts
    counted same [] grown x = omega arith
    counted same (t ∷ ts) grown x =
        let later = counted same ts grown.1 x in
        let less = length-pruned ts in
        let members = among-append (trim y c t.1) (branches c ts) x in
        by_test (is_abort (y.state t.0).mode)
        (λ b. one (among t.1 x || in_trees ts x) + length (cond b ((t.0, trim y t.0 t.1) ∷ pruned ts) (pruned ts))
        ≤ one (among (trim y c t.1 ++ branches c ts) x || in_trees (cond b ((t.0, trim y t.0 t.1) ∷ pruned ts) (pruned ts)) x) + length (t ∷ ts))
        (λ _. by_test (among t.1 x)
        (λ b. one (b || in_trees ts x) + length ((t.0, trim y t.0 t.1) ∷ pruned ts) ≤ one (among (trim y c t.1 ++ branches c ts) x || in_trees ((t.0, trim y t.0 t.1) ∷ pruned ts) x) + length (t ∷ ts))
        (λ here. elim (each_stays c same t.0 t.1 grown.0.reached x here) [
          | inl first ↦ grind (arith, nat_tests, first, less)
          | inr second ↦ grind (arith, nat_tests, second, less, members)
        ])
        (λ _. grind (arith, nat_tests, later, members)))
        (λ _. grind (arith, nat_tests, less))

    -- an Abort node stays in a tree
    in_new : ((x : ℕ) → x ≢ c → (y.state x).parent ≡ (z.state x).parent) → (ts : List Tree) → AllGrown part z ts → (x : ℕ) → is_abort (y.state x).mode ≡ true → in_trees ts x ≡ true → (among (branches c ts) x || in_trees (pruned ts) x) ≡ true
    in_new same [] grown x abort h = cc
    in_new same (t ∷ ts) grown x abort h =
        let later = in_new same ts grown.1 x abort in
        let members = among-append (trim y c t.1) (branches c ts) x in
        by_test (among t.1 x) (λ b. (b || in_trees ts x) ≡ true → (among (trim y c t.1 ++ branches c ts) x || in_trees (cond (is_abort (y.state t.0).mode) ((t.0, trim y t.0 t.1) ∷ pruned ts) (pruned ts)) x) ≡ true)
        (λ here _. elim (each_stays c same t.0 t.1 grown.0.reached x here) [
          | inl first ↦ let top = top_abort t.0 t.1 x abort first in grind (arith, nat_tests, first, top)
          | inr second ↦ grind (arith, nat_tests, second, members)
        ])
        (λ _ more. let in_later = later more in grind (arith, nat_tests, in_later, members)) h

  -- an Abort node stays in a tree, if none has lost its parent
  in_pruned : ((x : ℕ) → is_abort (y.state x).mode ≡ true → (y.state x).parent ≡ (z.state x).parent) → (ts : List Tree) → AllGrown part z ts → (x : ℕ) → is_abort (y.state x).mode ≡ true → in_trees ts x ≡ true → in_trees (pruned ts) x ≡ true
  in_pruned same [] grown x abort h = cc
  in_pruned same (t ∷ ts) grown x abort h =
      let later = in_pruned same ts grown.1 x abort in
      by_test (among t.1 x) (λ b. (b || in_trees ts x) ≡ true → in_trees (cond (is_abort (y.state t.0).mode) ((t.0, trim y t.0 t.1) ∷ pruned ts) (pruned ts)) x ≡ true)
      (λ here _.
      let still = abort_stays same t.0 t.1 grown.0.reached x abort here in
      let top = top_abort t.0 t.1 x abort still in
      grind (arith, nat_tests, still, top))
      (λ _ more. let in_later = later more in grind (arith, nat_tests, in_later)) h

  -- ---- the step

  -- a dropped link pays for one more tree, or for the nodes that leave their trees
  pub cutting : (ts : List Tree) (starts : List ℕ) (drops : ℕ) → 1 ≤ drops → Forest part z ts → Tends part z y ts signals starts drops
  cutting ts starts drops some forest = by_orphan cuts.orphan
    where
      by_orphan : Orphan part z y → Tends part z y ts signals starts drops
      by_orphan (Orphan.nobody same) = record {
        trees = pruned ts;
        forest = record { grown = grown-pruned ts forest.grown; covered = λ x inside h. in_pruned same ts forest.grown x h (forest.covered x inside (cuts.abort x h)) };
        paid = λ x inside. let spent = cuts.spent x in let less = length-pruned ts in by_test (in_trees ts x)
            (λ b. signals x + busy (y.state x) + one b + length (pruned ts) ≤ count_by part starts + drops + one (in_trees (pruned ts) x) + length ts + busy (z.state x)) (λ _. omega (arith, spent, less, some)) (λ _. omega (arith, spent, less, some));
      }
      by_orphan (Orphan.somebody c inside abort none same) = record {
        trees = (c, branches c ts) ∷ pruned ts;
        forest = record {
          grown = (grown-branches c inside abort none ts forest.grown, grown-pruned ts forest.grown);
          covered = λ x in_x h. in_new c inside abort none same ts forest.grown x h (forest.covered x in_x (cuts.abort x h));
        };
        paid = λ x in_x. let spent = cuts.spent x in let all = counted c inside abort none same ts forest.grown x in grind (arith, spent, all, some);
      }
