-- A transition at one node of a world keeps it sound, if it keeps the node's own links legal: the others are
-- unchanged.
use Rattle.std.proofs.Common.{◌≡◌, ◌≢◌, ℕ, true, false, ◌++◌, refl, sym, ap, ◌∙◌, subst, arith}
use Rattle.std.proofs.lemmas.Bool.Decides.{nat_tests}
use Rattle.coord_types.specs.Facade.{Ideal, NodeState, contains}
use Rattle.coord_node.specs.Facade.{Transition, added, ideal_applied}
use Rattle.coord_world.specs.protocol.Links.{Link, link, end_of, turned}
use Rattle.coord_tables.proofs.Cases.{by_test, everywhere}
use Rattle.coord_world.proofs.transitions.KeepsLinks.{LegalBoth, LegalEnd}
use Rattle.coord_world.proofs.lists.NodeSets.{empty_has}
use Rattle.coord_world.proofs.legal.Sound.{Sound, SoundNode}

-- what a node's own rules say at each of its ends
pub legal_end : (version : ℕ) (r : NodeState) (v : ℕ) → SoundNode r → LegalEnd (end_of version r v)
legal_end version r v node = grind (arith, node, empty_has r.pend v, node.parent_outside v)

module _ (w : Ideal) (u : ℕ) (sound : Sound w) where
  -- no node is its own neighbour
  pub not_self : (y : ℕ) → contains (w.state u).neighbours y ≡ true → y ≢ u
  not_self y with_y same = let none = sound.apart u in let some = subst (λ z. contains (w.state u).neighbours z ≡ true) same with_y in cc

  -- before the transition
  pub both_before : (y : ℕ) → contains (w.state u).neighbours y ≡ true → LegalBoth (link w u y)
  both_before y with_y = record {
    here = legal_end _ _ y (sound.nodes u);
    there = legal_end _ _ u (sound.nodes y);
    from = sound.links u y with_y;
    to = sound.links y u (sym (sound.mirrored u y) ∙ with_y);
  }

-- the links alone, whatever the nodes say
pub record LegalLinks (w : Ideal) : Type 0 where
  pub links : (x y : ℕ) → w.linked x y ≡ true → LegalBoth (link w x y)
  pub mirrored : (x y : ℕ) → w.linked x y ≡ w.linked y x
  pub apart : (x y : ℕ) → w.linked x y ≡ true → y ≢ x

-- the links of a sound world
pub links_of : (w : Ideal) → Sound w → LegalLinks w
links_of w sound = record {
  links = λ x y with_y. both_before w x sound y (sym (sound.linked x y) ∙ with_y);
  mirrored = λ x y. sound.linked x y ∙ sound.mirrored x y ∙ sym (sound.linked y x);
  apart = λ x y with_y. not_self w x sound y (sym (sound.linked x y) ∙ with_y);
}

-- legal links and nodes that name them make a world sound
pub sound_of : (w : Ideal) → LegalLinks w → ((x : ℕ) → SoundNode (w.state x)) → ((x y : ℕ) → w.linked x y ≡ contains (w.state x).neighbours y) → Sound w
sound_of w ok nodes linked = record {
  links = λ x y neighbours. (ok.links x y (linked x y ∙ neighbours)).from;
  nodes = nodes;
  linked = linked;
  mirrored = λ x y. sym (linked x y) ∙ ok.mirrored x y ∙ linked y x;
  apart = λ x. by_test (contains (w.state x).neighbours x) (λ b. b ≡ false) (λ has. absurd (ok.apart x x (linked x x ∙ has) refl)) (λ _. refl);
}

-- what both ends see is seen from the other end too
flip : (l : Link) → LegalBoth l → LegalBoth (turned l)
flip l both = record { here = both.there; there = both.here; from = both.to; to = both.from }

-- a world that is sound but for the links of u
pub record SoundBut (w : Ideal) (u : ℕ) : Type 0 where
  pub links : (x y : ℕ) → x ≢ u → y ≢ u → w.linked x y ≡ true → LegalBoth (link w x y)
  pub nodes : (x : ℕ) → SoundNode (w.state x)
  pub linked : (x y : ℕ) → w.linked x y ≡ contains (w.state x).neighbours y
  pub mirrored : (x y : ℕ) → w.linked x y ≡ w.linked y x
  pub apart : (x y : ℕ) → w.linked x y ≡ true → y ≢ x

pub but_of : (w : Ideal) (u : ℕ) → Sound w → SoundBut w u
but_of w u sound = grind (arith, nat_tests, sound, links_of w sound)

module _ (w : Ideal) (u : ℕ) (d : Transition) where
  -- the node has the state of the transition
  pub row_here : (ideal_applied w u d).state u ≡ d.state
  row_here = grind (arith, nat_tests)

  -- no other node changes
  pub row_there : (x : ℕ) → x ≢ u → (ideal_applied w u d).state x ≡ w.state x
  row_there x apart = grind (arith, nat_tests)

  -- the messages are after those on the way
  way_out : (y : ℕ) → w.linked u y ≡ true → (ideal_applied w u d).in_transit u y ≡ w.in_transit u y ++ added d y
  way_out y with_y = grind (arith, nat_tests)

  -- nothing else changes on the way
  way_apart : (x y : ℕ) → x ≢ u → (ideal_applied w u d).in_transit x y ≡ w.in_transit x y
  way_apart x y apart = grind (arith, nat_tests)

  -- the link to y after the transition
  abbrev pub far_after : ℕ → Link
  far_after y = record { here = end_of w.version d.state y; there = end_of w.version (w.state y) u; out = w.in_transit u y ++ added d y; back = w.in_transit y u }

  -- that link is what the transition leaves
  far_is : (y : ℕ) → y ≢ u → w.linked u y ≡ true → link (ideal_applied w u d) u y ≡ far_after y
  far_is y apart with_y i = record { here = end_of w.version (row_here i) y; there = end_of w.version (row_there y apart i) u; out = way_out y with_y i; back = way_apart y u apart i }

  -- a link of two other nodes stays
  apart_is : (x y : ℕ) → x ≢ u → y ≢ u → link (ideal_applied w u d) x y ≡ link w x y
  apart_is x y p q i = record { here = end_of w.version (row_there x p i) y; there = end_of w.version (row_there y q i) x; out = way_apart x y p i; back = way_apart y x q i }

  module _ (mirrored : (x y : ℕ) → w.linked x y ≡ w.linked y x) (apart : (x y : ℕ) → w.linked x y ≡ true → y ≢ x)
      (others : (x y : ℕ) → x ≢ u → y ≢ u → w.linked x y ≡ true → LegalBoth (link w x y)) (elsewhere : (y : ℕ) → w.linked u y ≡ true → LegalBoth (far_after y)) where
    -- the links of the node
    here_legal : (y : ℕ) → w.linked u y ≡ true → LegalBoth (link (ideal_applied w u d) u y)
    here_legal y with_y = subst LegalBoth (sym (far_is y (apart u y with_y) with_y)) (elsewhere y with_y)

    -- each link
    each_legal : (x y : ℕ) → w.linked x y ≡ true → LegalBoth (link (ideal_applied w u d) x y)
    each_legal x y = everywhere (λ z. w.linked z y ≡ true → LegalBoth (link (ideal_applied w u d) z y)) u (here_legal y)
        (λ z far. everywhere (λ v. w.linked z v ≡ true → LegalBoth (link (ideal_applied w u d) z v)) u
        (λ with_u. flip (link (ideal_applied w u d) u z) (here_legal z (mirrored u z ∙ with_u)))
        (λ v other with_v. subst LegalBoth (sym (apart_is z v far other)) (others z v far other with_v)) y) x

    -- links stay legal where those of the node do
    pub links_kept : LegalLinks (ideal_applied w u d)
    links_kept = record { links = each_legal; mirrored = mirrored; apart = apart }

  -- a node's transition keeps a world sound, where its neighbours stay
  pub transition_kept : SoundBut w u → ((y : ℕ) → w.linked u y ≡ true → LegalBoth (far_after y)) → d.state.neighbours ≡ (w.state u).neighbours → SoundNode d.state → Sound (ideal_applied w u d)
  transition_kept but elsewhere neighbours node = sound_of (ideal_applied w u d) (links_kept but.mirrored but.apart but.links elsewhere) nodes_kept (λ x y. but.linked x y ∙ ap (λ s. contains s y) (sym (nears x)))
    where
      nodes_kept : (x : ℕ) → SoundNode ((ideal_applied w u d).state x)
      nodes_kept = everywhere (λ x. SoundNode ((ideal_applied w u d).state x)) u (subst SoundNode (sym row_here) node) (λ x far. subst SoundNode (sym (row_there x far)) (but.nodes x))

      nears : (x : ℕ) → ((ideal_applied w u d).state x).neighbours ≡ (w.state x).neighbours
      nears = everywhere (λ x. ((ideal_applied w u d).state x).neighbours ≡ (w.state x).neighbours) u (ap (λ (r : NodeState). r.neighbours) row_here ∙ neighbours) (λ x far. ap (λ (r : NodeState). r.neighbours) (row_there x far))
