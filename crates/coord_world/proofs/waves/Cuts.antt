-- What dropping a link does to a wave: its two ends go on without it, and at most one node in the wave loses its parent.
use Rattle.std.proofs.Common.{◌≡◌, ◌≢◌, ◌⊎◌, ℕ, ◌+◌, ◌≤◌, ◌&&◌, Bool, true, false, List, [], ◌∷◌, Option, Some, None, refl, sym, ap, ◌∙◌, subst, inl, inr, arith, cond, count_by}
use Rattle.std.proofs.lemmas.Bool.Decides.{nat_tests}
use Rattle.coord_types.proofs.Sets.{contains-empty, both}
use Rattle.coord_types.specs.Facade.{Ideal, NodeState, contains}
use Rattle.coord_types.specs.declared.messages.Mode.{Mode}
use Rattle.coord_types.specs.declared.messages.Mode.TheVariants.{Ready, Abort, Converge}
use Rattle.coord_node.specs.Facade.{Transition, ideal_applied, is_empty, is_link, is_parent, lost, without, without_link}
use Rattle.coord_tables.proofs.Cases.{by_test, same_or_apart}
use Rattle.coord_world.specs.Facade.{is_ready, signals}
use Rattle.coord_world.specs.laws.Waves.{is_signal_of}
use Rattle.coord_world.specs.protocol.Links.{aborts, is_abort, one}
use Rattle.coord_world.proofs.legal.LinksKept.{dropped}
use Rattle.coord_world.proofs.legal.Sound.{Sound}
use Rattle.coord_world.proofs.legal.TransitionKept.{row_here, row_there}
use Rattle.coord_world.proofs.lists.NodeSets.{empty_has, has_only}
use Rattle.coord_world.proofs.transitions.RuleCases.{lost_cases}
use Rattle.coord_world.proofs.waves.Effect.{IsQuiet, calm_transition}
use Rattle.coord_world.proofs.waves.Modes.{busy, mode_is_abort}

-- ---- any step that cuts a wave

-- which Abort node has lost its parent: none, or the node c of the part alone
pub data Orphan (part : ℕ → Bool) (z y : Ideal) : Type 0 where
  nobody : ((x : ℕ) → is_abort (y.state x).mode ≡ true → (y.state x).parent ≡ (z.state x).parent) → Orphan part z y
  somebody : (c : ℕ) → part c ≡ true → (y.state c).mode ≡ Abort → (y.state c).parent ≡ None → ((x : ℕ) → x ≢ c → (y.state x).parent ≡ (z.state x).parent) → Orphan part z y

-- no Abort is sent, no node leaves Ready or gets a parent, and each signal ends a reset of its node
pub record Cuts (part : ℕ → Bool) (z y : Ideal) (signals : ℕ → ℕ) : Type 0 where
  pub fewer : (a b : ℕ) → aborts (y.in_transit a b) ≤ aborts (z.in_transit a b)
  pub spent : (x : ℕ) → signals x + busy (y.state x) ≤ busy (z.state x)
  pub abort : (x : ℕ) → is_abort (y.state x).mode ≡ true → is_abort (z.state x).mode ≡ true
  pub parent : (x p : ℕ) → (y.state x).parent ≡ Some p → (z.state x).parent ≡ Some p
  pub orphan : Orphan part z y

-- ---- an end of the link

-- what one end does when its link to v is dropped
record Loses (r : NodeState) (v : ℕ) (d : Transition) : Type 0 where
  quiet : IsQuiet d
  spent : one d.finished + busy d.state ≤ busy r
  abort : is_abort d.state.mode ≡ true → is_abort r.mode ≡ true
  parent : (p : ℕ) → d.state.parent ≡ Some p → r.parent ≡ Some p
  -- an Abort node keeps a parent other than v, and has none if v was its parent
  kept : is_abort r.mode ≡ true → is_parent r.parent v ≡ false → d.state.parent ≡ r.parent
  freed : is_abort d.state.mode ≡ true → is_parent r.parent v ≡ true → d.state.parent ≡ None

-- a node without its link to v has no new parent
left_was : (o : Option ℕ) (v p : ℕ) → without o v ≡ Some p → o ≡ Some p
left_was o v p h1 = grind (arith, nat_tests, h1)

-- a parent other than v stays
other_left : (o : Option ℕ) (v : ℕ) → is_parent o v ≡ false → without o v ≡ o
other_left o v h1 = grind (arith, nat_tests, h1)

-- the parent v is gone
none_left : (o : Option ℕ) (v : ℕ) → is_parent o v ≡ true → without o v ≡ None
none_left o v h1 = grind (arith, nat_tests, h1)

loses : (r : NodeState) (v : ℕ) → Loses r v (lost r v)
loses r v = lost_cases r v (Loses r v)
    (λ ready. record { quiet = λ y. grind (arith, contains-empty y); spent = omega arith; abort = λ h. h; parent = left_was r.parent v; kept = λ _. other_left r.parent v; freed = λ _. none_left r.parent v })
    (λ abort _. record { quiet = λ y. grind (arith, contains-empty y); spent = omega arith; abort = λ h. h; parent = left_was r.parent v; kept = λ _. other_left r.parent v; freed = λ _. none_left r.parent v })
    (λ converge _. record { quiet = λ y. grind (arith, contains-empty y); spent = omega arith; abort = λ h. h; parent = left_was r.parent v; kept = λ _. other_left r.parent v; freed = λ _. none_left r.parent v })
    (λ converge child. record {
      quiet = λ y. grind arith;
      spent = let was = ap is_ready converge in grind (arith, was);
      abort = λ h. cc;
      parent = λ p h. cc;
      kept = λ h. absurd (let none = ap is_abort converge in cc);
      freed = λ _ _. refl;
    })
    (λ abort _ top. record {
      quiet = λ y. grind arith;
      spent = let was = ap is_ready abort in grind (arith, was);
      abort = λ h. cc;
      parent = λ p h. cc;
      kept = λ _ other. sym top ∙ other_left r.parent v other;
      freed = λ _ _. refl;
    })
    (λ abort _ p up. record {
      quiet = λ y. grind (arith, nat_tests, has_only p y);
      spent = let was = ap is_ready abort in grind (arith, was);
      abort = λ h. cc;
      parent = left_was r.parent v;
      kept = λ _. other_left r.parent v;
      freed = λ _. none_left r.parent v;
    })

-- ---- both ends

-- the transitions of two nodes signal each of them if it finishes, and no other node
module _ (a b : ℕ) (apart : a ≢ b) (d e : Transition) where
  pub first_signals : count_by (is_signal_of a) (signals ((a, d) ∷ (b, e) ∷ [])) ≡ one d.finished
  first_signals = grind (arith, nat_tests, apart)

  pub second_signals : count_by (is_signal_of b) (signals ((a, d) ∷ (b, e) ∷ [])) ≡ one e.finished
  second_signals = grind (arith, nat_tests, apart)

  pub no_signal : (x : ℕ) → x ≢ a → x ≢ b → count_by (is_signal_of x) (signals ((a, d) ∷ (b, e) ∷ [])) ≡ 0
  no_signal x far_a far_b = grind (arith, nat_tests, far_a, far_b)

module _ (z : Ideal) (a b : ℕ) (apart : a ≢ b) (with_b : contains (z.state a).neighbours b ≡ true) (sound : Sound z) where
  -- the transitions of the two ends
  abbrev da : Transition
  da = lost (z.state a) b

  abbrev db : Transition
  db = lost (z.state b) a

  -- the world without the link, then after the transition of the first end, then after both
  abbrev cut : Ideal
  cut = without_link z a b

  abbrev one_end : Ideal
  one_end = ideal_applied cut a da

  abbrev after : Ideal
  after = dropped z a b

  -- how often each node is signalled
  abbrev given : ℕ → ℕ
  given x = count_by (is_signal_of x) (signals ((a, da) ∷ (b, db) ∷ []))

  at_a : after.state a ≡ da.state
  at_a = row_there one_end b db a apart ∙ row_here cut a da

  at_b : after.state b ≡ db.state
  at_b = row_here one_end b db

  -- no other node changes
  pub drop_elsewhere : (x : ℕ) → x ≢ a → x ≢ b → after.state x ≡ z.state x
  drop_elsewhere x far_a far_b = row_there one_end b db x far_b ∙ row_there cut a da x far_a

  -- a fact about both ends and about each node that does not change is one about each node
  each : (P : ℕ → NodeState → NodeState → Type 0) → P a (z.state a) da.state → P b (z.state b) db.state → ((x : ℕ) → x ≢ a → x ≢ b → P x (z.state x) (z.state x)) → (x : ℕ) → P x (z.state x) (after.state x)
  each P first second rest x = elim (same_or_apart x a) [
    | inl is_a ↦ subst (λ q. P q (z.state q) (after.state q)) (sym is_a) (subst (P a (z.state a)) (sym at_a) first)
    | inr far_a ↦ elim (same_or_apart x b) [
      | inl is_b ↦ subst (λ q. P q (z.state q) (after.state q)) (sym is_b) (subst (P b (z.state b)) (sym at_b) second)
      | inr far_b ↦ subst (P x (z.state x)) (sym (drop_elsewhere x far_a far_b)) (rest x far_a far_b)
    ]
  ]

  -- no Abort is sent
  pub drop_fewer : (x y : ℕ) → aborts (after.in_transit x y) ≤ aborts (z.in_transit x y)
  drop_fewer x y =
      let first = (calm_transition cut a da (loses (z.state a) b).quiet).fewer x y in
      let second = (calm_transition one_end b db (loses (z.state b) a).quiet).fewer x y in
      let gone : aborts (cut.in_transit x y) ≤ aborts (z.in_transit x y) = by_test (is_link a b x y) (λ t. aborts (cond t [] (z.in_transit x y)) ≤ aborts (z.in_transit x y)) (λ _. omega arith) (λ _. omega arith) in
      omega arith

  -- the parent of an Abort node awaits it, so it is Abort and not its child
  above : (x p : ℕ) → contains (z.state p).neighbours x ≡ true → is_abort (z.state x).mode ≡ true → is_parent (z.state x).parent p ≡ true → (is_abort (z.state p).mode ≡ true) × (is_parent (z.state p).parent x ≡ false)
  above x p near abort child =
      let count = (sound.links p x near).counted in
      let awaits : contains (z.state p).pend x ≡ true = grind (arith, nat_tests, count, abort, child) in (
        by_test (is_abort (z.state p).mode) (λ t. t ≡ true) (λ _. refl) (λ other. absurd (let none = empty_has (z.state p).pend x ((sound.nodes p).quiet other) in cc)),
        by_test (is_parent (z.state p).parent x) (λ t. t ≡ false) (λ is. absurd (let none = (sound.nodes p).parent_outside x is in cc)) (λ _. refl),
      )

  -- a node that is Abort after the step has its parent still
  abbrev Stays : ℕ → NodeState → NodeState → Type 0
  Stays x r q = is_abort q.mode ≡ true → q.parent ≡ r.parent

  orphan : (part : ℕ → Bool) → part a ≡ true → part b ≡ true → Orphan part z after
  orphan part in_a in_b =
      let first = loses (z.state a) b in
      let second = loses (z.state b) a in
      by_test (is_abort db.state.mode && is_parent (z.state b).parent a) (λ _. Orphan part z after)
      (λ h.
      let is = both (is_abort db.state.mode) (is_parent (z.state b).parent a) h in
      let up = above b a with_b (second.abort is.0) is.1 in
      Orphan.somebody b in_b (ap (λ (r : NodeState). r.mode) at_b ∙ mode_is_abort db.state.mode is.0) (ap (λ (r : NodeState). r.parent) at_b ∙ second.freed is.0 is.1)
      (each (λ x r q. x ≢ b → q.parent ≡ r.parent) (λ _. first.kept up.0 up.1) (λ far. absurd (far refl)) (λ x _ _ _. refl)))
      (λ not_b. by_test (is_abort da.state.mode && is_parent (z.state a).parent b) (λ _. Orphan part z after)
      (λ h.
      let is = both (is_abort da.state.mode) (is_parent (z.state a).parent b) h in
      let up = above a b (sym (sound.mirrored a b) ∙ with_b) (first.abort is.0) is.1 in
      Orphan.somebody a in_a (ap (λ (r : NodeState). r.mode) at_a ∙ mode_is_abort da.state.mode is.0) (ap (λ (r : NodeState). r.parent) at_a ∙ first.freed is.0 is.1)
      (each (λ x r q. x ≢ a → q.parent ≡ r.parent) (λ far. absurd (far refl)) (λ _. second.kept up.0 up.1) (λ x _ _ _. refl)))
      (λ not_a. Orphan.nobody (each Stays
      (λ abort. first.kept (first.abort abort) (grind (arith, nat_tests, not_a, abort)))
      (λ abort. second.kept (second.abort abort) (grind (arith, nat_tests, not_b, abort)))
      (λ x _ _ _. refl))))

  pub drop_cuts : (part : ℕ → Bool) → part a ≡ true → part b ≡ true → Cuts part z after given
  drop_cuts part in_a in_b =
      let first = loses (z.state a) b in
      let second = loses (z.state b) a in
      record {
        fewer = drop_fewer;
        spent = each (λ x r q. given x + busy q ≤ busy r)
            (omega (arith, first_signals a b apart da db, first.spent))
            (omega (arith, second_signals a b apart da db, second.spent))
            (λ x far_a far_b. omega (arith, no_signal a b apart da db x far_a far_b));
        abort = each (λ x r q. is_abort q.mode ≡ true → is_abort r.mode ≡ true) first.abort second.abort (λ x _ _ h. h);
        parent = each (λ x r q. (p : ℕ) → q.parent ≡ Some p → r.parent ≡ Some p) first.parent second.parent (λ x _ _ p h. h);
        orphan = orphan part in_a in_b;
      }
