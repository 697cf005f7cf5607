-- A link that is made or dropped keeps a world sound.
use Rattle.std.proofs.Common.{◌≡◌, ◌≢◌, ℕ, Bool, true, false, [], refl, sym, ◌∙◌, subst, arith, cond, eqb, ◌&&◌, Option, None, ap}
use Rattle.std.proofs.lemmas.Bool.Decides.{nat_tests}
use Rattle.coord_types.specs.Facade.{Ideal, NodeState, contains}
use Rattle.coord_types.proofs.Sets.{contains-insert, len_zero, contains-remove}
use Rattle.coord_node.specs.Facade.{is_link, is_parent, linked_up, with_neighbour, Transition, ideal_applied, idle, is_empty, lost, without, without_link}
use Rattle.coord_world.proofs.legal.Sound.{SoundNode, Sound}
use Rattle.coord_world.specs.protocol.Links.{end_of, link, is_abort, is_ready}
use Rattle.coord_world.proofs.legal.TransitionKept.{LegalLinks, legal_end, links_of, sound_of, links_kept, row_here, row_there}
use Rattle.coord_tables.proofs.Cases.{by_test, everywhere}
use Rattle.coord_world.proofs.transitions.KeepsLinks.{LegalBoth, joined, Aside, Keeps, aside_lost, keeps_converge, keeps_finish, keeps_idle}
use Rattle.coord_types.specs.declared.messages.Mode.TheVariants.{Abort, Converge}
use Rattle.coord_world.proofs.transitions.RuleCases.{goes_lost, cut_from, lost_cases}
use Rattle.coord_world.proofs.lists.NodeSets.{empty_has}
use Rattle.coord_types.specs.NodeSet as set

-- ---- a link that is made keeps a world sound

-- a node with one more neighbour
wider : (r : NodeState) (b : ℕ) → SoundNode r → SoundNode (with_neighbour r b)
wider r b node = record {
  awaits = node.awaits;
  quiet = node.quiet;
  no_parent = node.no_parent;
  has_parent = node.has_parent;
  parent_outside = node.parent_outside;
  parent_near = λ y e. grind (arith, nat_tests, contains-insert r.neighbours b y, node.parent_near y e);
  within = λ y e. grind (arith, nat_tests, contains-insert r.neighbours b y, node.within y e);
}

module _ (w : Ideal) (a b : ℕ) (apart : a ≢ b) (free : w.linked a b ≡ false) (sound : Sound w) where
  -- the other way is free too
  back_free : w.linked b a ≡ false
  back_free = sym ((links_of w sound).mirrored a b) ∙ free

  -- the ends of the links do not change
  same_end : (x y : ℕ) → end_of w.version ((linked_up w a b).state x) y ≡ end_of w.version (w.state x) y
  same_end x y = grind (arith, nat_tests)

  -- the awaited nodes and the parent of a node are linked to it
  strangers : (x y : ℕ) → w.linked x y ≡ false → (contains (w.state x).pend y ≡ false) × (is_parent (w.state x).parent y ≡ false)
  strangers x y h1 = grind (arith, nat_tests, h1)

  -- a new link is legal
  new_link : (x y : ℕ) → w.linked x y ≡ false → w.linked y x ≡ false → LegalBoth (record { here = end_of w.version (w.state x) y; there = end_of w.version (w.state y) x; out = []; back = [] })
  new_link x y none back = record {
    here = legal_end _ _ y (sound.nodes x);
    there = legal_end _ _ x (sound.nodes y);
    from = joined _ (strangers x y none).1 (strangers y x back).1 (strangers x y none).0 (strangers y x back).0 refl refl;
    to = joined _ (strangers y x back).1 (strangers x y none).1 (strangers y x back).0 (strangers x y none).0 refl refl;
  }

  -- each link is legal
  up_links : LegalLinks (linked_up w a b)
  up_links = record {
    links = λ x y with_y. subst LegalBoth (λ i. record { here = sym (same_end x y) i; there = sym (same_end y x) i; out = (linked_up w a b).in_transit x y; back = (linked_up w a b).in_transit y x }) (plain x y with_y);
    mirrored = λ x y. grind (arith, nat_tests, (links_of w sound).mirrored x y);
    apart = λ x y with_y same. grind (arith, nat_tests, (links_of w sound).apart x y, same);
  }
    where
      plain : (x y : ℕ) → (linked_up w a b).linked x y ≡ true → LegalBoth (record { here = end_of w.version (w.state x) y; there = end_of w.version (w.state y) x; out = (linked_up w a b).in_transit x y; back = (linked_up w a b).in_transit y x })
      plain x y with_y = both_ways (is_link a b x y) (is_link a b y x) refl refl
        where
          both_ways : (s t : Bool) → is_link a b x y ≡ s → is_link a b y x ≡ t → LegalBoth (record { here = end_of w.version (w.state x) y; there = end_of w.version (w.state y) x; out = cond s [] (w.in_transit x y); back = cond t [] (w.in_transit y x) })
          both_ways true true e f = new_link x y (grind (arith, nat_tests, free, back_free)) (grind (arith, nat_tests, free, back_free))
          both_ways true false e f = absurd (grind (arith, nat_tests))
          both_ways false true e f = absurd (grind (arith, nat_tests))
          both_ways false false e f = (links_of w sound).links x y (grind (arith, nat_tests))

  -- each node is legal
  up_nodes : (x : ℕ) → SoundNode ((linked_up w a b).state x)
  up_nodes x = by_test (eqb x b) (λ t. SoundNode (cond t (with_neighbour (w.state b) a) (cond (eqb x a) (with_neighbour (w.state a) b) (w.state x))))
      (λ _. wider (w.state b) a (sound.nodes b))
      (λ _. by_test (eqb x a) (λ t. SoundNode (cond t (with_neighbour (w.state a) b) (w.state x)))
      (λ _. wider (w.state a) b (sound.nodes a)) (λ _. sound.nodes x))

  -- each node names its links
  up_near : (x y : ℕ) → (linked_up w a b).linked x y ≡ contains ((linked_up w a b).state x).neighbours y
  up_near x y = grind (arith, nat_tests, contains-insert (w.state b).neighbours a y, sound.linked b y, contains-insert (w.state a).neighbours b y, sound.linked a y, sound.linked x y)

  -- a link that is made
  pub join_kept : Sound (linked_up w a b)
  join_kept = sound_of (linked_up w a b) up_links up_nodes up_near

-- ---- a link that is dropped keeps a world sound

-- a link vanishes, and both its ends act on that
abbrev pub dropped : Ideal → ℕ → ℕ → Ideal
dropped w a b = ideal_applied (ideal_applied (without_link w a b) a (lost (w.state a) b)) b (lost (w.state b) a)

-- a node whose parent is lost has none
no_parent_left : (p : Option ℕ) (b : ℕ) → is_parent p b ≡ true → without p b ≡ None
no_parent_left p b h1 = grind (arith, nat_tests, h1)

-- any other parent stays
parent_stays : (p : Option ℕ) (b : ℕ) → is_parent p b ≡ false → without p b ≡ p
parent_stays p b h1 = grind (arith, nat_tests, h1)

module _ (version : ℕ) (r : NodeState) (b : ℕ) (node : SoundNode r) where
  -- the state without the link, and its invariant
  abbrev s : NodeState
  s = cut_from r b

  aside : Aside r s b
  aside = aside_lost r b node

  -- a node that goes on as before
  stays : (is_abort r.mode ≡ true → is_empty s.pend ≡ false) → (is_abort r.mode ≡ false → is_empty s.pend ≡ true) → (r.mode ≡ Converge → is_parent r.parent b ≡ false) → Keeps version r b (idle s)
  stays awaits quiet child = keeps_idle version r s b aside (record {
    awaits = awaits;
    quiet = quiet;
    no_parent = λ e. ap (λ p. without p b) (node.no_parent e);
    has_parent = λ e n. node.has_parent e (sym (parent_stays r.parent b (child e)) ∙ n);
    parent_outside = aside.parent_outside;
    parent_near = aside.parent_near;
    within = aside.within;
  })

  -- a node that isn't Abort awaits nobody
  quiet_left : is_abort r.mode ≡ false → is_empty s.pend ≡ true
  quiet_left e =
      let zero : set.len s.pend ≡ 0 = len_zero s.pend (λ q. grind (arith, contains-remove r.pend b q, empty_has r.pend q (node.quiet e))) in
      grind (arith, nat_tests)

  -- somebody else is still awaited
  waits : r.mode ≡ Abort → (contains r.pend b && is_empty s.pend) ≡ false → is_empty s.pend ≡ false
  waits mode more = by_test (is_empty s.pend) (λ t. t ≡ false) (λ none.
      let zero : set.len r.pend ≡ 0 = len_zero r.pend (λ q. grind (arith, nat_tests, contains-remove r.pend b q, empty_has s.pend q none)) in
      absurd (grind (arith, nat_tests, node.awaits (ap is_abort mode)))) (λ some. refl)

  -- one end that loses its link to b
  pub loses : Keeps version r b (lost r b)
  loses = lost_cases r b (Keeps version r b)
      (λ e. stays (λ h. cc (ap is_abort e, h)) quiet_left (λ h. cc (e, h)))
      (λ e more. stays (λ _. waits e more) quiet_left (λ h. cc (e, h)))
      (λ e other. stays (λ h. cc (ap is_abort e, h)) quiet_left (λ _. other))
      (λ e child. keeps_finish version r s b aside (ap is_ready e) (quiet_left (ap is_abort e)) (λ y far. ap (λ p. is_parent p y) (no_parent_left r.parent b child)))
      (λ e last top. keeps_finish version r s b aside (ap is_ready e) (grind (arith, last)) (λ y far. ap (λ p. is_parent p y) top))
      (λ e last p up. keeps_converge version r s b aside p e (grind (arith, last)) up)

module _ (w : Ideal) (a b : ℕ) where
  -- the links that are left are legal
  pub cut_links : LegalLinks w → LegalLinks (without_link w a b)
  cut_links ok = record {
    links = λ x y with_y. subst LegalBoth (λ i. record { here = end_of w.version (w.state x) y; there = end_of w.version (w.state y) x; out = sym (way_stays x y with_y) i; back = sym (way_back_stays x y with_y) i }) (ok.links x y (grind (arith, nat_tests)));
    mirrored = λ x y. grind (arith, nat_tests, ok.mirrored x y);
    apart = λ x y with_y. ok.apart x y (grind (arith, nat_tests));
  }
    where
      way_stays : (x y : ℕ) → (without_link w a b).linked x y ≡ true → (without_link w a b).in_transit x y ≡ w.in_transit x y
      way_stays x y with_y = grind (arith, nat_tests)

      way_back_stays : (x y : ℕ) → (without_link w a b).linked x y ≡ true → (without_link w a b).in_transit y x ≡ w.in_transit y x
      way_back_stays x y with_y = grind (arith, nat_tests)

module _ (w : Ideal) (a b : ℕ) (with_b : w.linked a b ≡ true) (sound : Sound w) where
  -- what the first end does
  abbrev da : Transition
  da = lost (w.state a) b

  -- what the second end does
  abbrev db : Transition
  db = lost (w.state b) a

  -- the world when the first end has acted
  abbrev one_end : Ideal
  one_end = ideal_applied (without_link w a b) a da

  -- the ends are two nodes
  apart : b ≢ a
  apart = (links_of w sound).apart a b with_b

  -- the first end is legal then
  first : Keeps w.version (w.state a) b da
  first = loses w.version (w.state a) b (sound.nodes a)

  -- the second node keeps legality as it loses its neighbour
  second : Keeps w.version (w.state b) a db
  second = loses w.version (w.state b) a (sound.nodes b)

  -- links that are left go to neighbours
  in_near : (x y : ℕ) → (without_link w a b).linked x y ≡ true → contains (w.state x).neighbours y ≡ true
  in_near x y with_y = sym (sound.linked x y) ∙ grind (arith, nat_tests)

  -- the links are legal when one is cut
  cut_ok : LegalLinks (without_link w a b)
  cut_ok = cut_links w a b (links_of w sound)

  -- when the first end has acted
  one_ok : LegalLinks one_end
  one_ok = links_kept (without_link w a b) a da cut_ok.mirrored cut_ok.apart (λ x y p q with_y. cut_ok.links x y with_y)
      (λ y with_y. first.elsewhere (link (without_link w a b) a y) y (λ same. absurd (grind (arith, nat_tests))) (in_near a y with_y) refl (cut_ok.links a y with_y))

  -- the second end does not see that the first one has acted
  row_b : one_end.state b ≡ w.state b
  row_b = row_there (without_link w a b) a da b apart

  -- the links are legal when both ends have acted
  both_ok : LegalLinks (dropped w a b)
  both_ok = links_kept one_end b db one_ok.mirrored one_ok.apart (λ x y p q with_y. one_ok.links x y with_y)
      (λ y with_y. second.elsewhere (link one_end b y) y (λ same. absurd (grind (arith, nat_tests))) (in_near b y with_y) (ap (λ r. end_of w.version r y) row_b) (one_ok.links b y with_y))

  -- each node is legal
  nodes_ok : (x : ℕ) → SoundNode ((dropped w a b).state x)
  nodes_ok = everywhere (λ x. SoundNode ((dropped w a b).state x)) b (subst SoundNode (sym (row_here one_end b db)) second.node)
      (λ x far. subst SoundNode (sym (row_there one_end b db x far))
      (everywhere (λ z. SoundNode (one_end.state z)) a (subst SoundNode (sym (row_here (without_link w a b) a da)) first.node) (λ z other. subst SoundNode (sym (row_there (without_link w a b) a da z other)) (sound.nodes z)) x))

  -- each node names its links
  near_ok : (x y : ℕ) → (dropped w a b).linked x y ≡ contains ((dropped w a b).state x).neighbours y
  near_ok x y = everywhere (λ z. (dropped w a b).linked z y ≡ contains ((dropped w a b).state z).neighbours y) b
      (grind (arith, nat_tests, sound.linked b y, contains-remove (w.state b).neighbours a y) ∙ ap (λ s. contains s y) (sym (goes_lost (w.state b) a).neighbours) ∙ ap (λ r. contains r.neighbours y) (sym (row_here one_end b db)))
      (λ z far. near_one z far ∙ ap (λ r. contains r.neighbours y) (sym (row_there one_end b db z far))) x
    where
      near_one : (z : ℕ) → z ≢ b → (dropped w a b).linked z y ≡ contains (one_end.state z).neighbours y
      near_one = everywhere (λ z. z ≢ b → (dropped w a b).linked z y ≡ contains (one_end.state z).neighbours y) a
          (λ far. grind (arith, nat_tests, far, sound.linked a y, contains-remove (w.state a).neighbours b y) ∙ ap (λ s. contains s y) (sym (goes_lost (w.state a) b).neighbours) ∙ ap (λ r. contains r.neighbours y) (sym (row_here (without_link w a b) a da)))
          (λ z other far. grind (arith, nat_tests, far, other, sound.linked z y) ∙ ap (λ r. contains r.neighbours y) (sym (row_there (without_link w a b) a da z other)))

  -- a link that is dropped
  pub drop_kept : Sound (dropped w a b)
  drop_kept = sound_of (dropped w a b) both_ok nodes_ok near_ok
