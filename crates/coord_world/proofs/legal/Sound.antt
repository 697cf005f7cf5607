-- What the tests of nodes and links say, as facts: the form in which the rules are proved to keep them.
use Rattle.std.proofs.Common.{◌≡◌, ℕ, ◌<◌, ◌≤◌, true, false, Option, Some, None, refl, arith, ◌+◌, ◌&&◌}
use Rattle.std.proofs.lemmas.Bool.Decides.{nat_tests}
use Rattle.coord_types.proofs.Sets.{contains-subset, is_subset_by}
use Rattle.coord_types.specs.Facade.{NodeSet, NodeState, Ideal, contains}
use Rattle.coord_types.specs.declared.messages.Mode.TheVariants.{Ready, Converge}
use Rattle.coord_node.specs.Rules.{is_empty, is_parent}
use Rattle.coord_world.specs.Facade.{is_abort, is_legal_node, is_parent_near, is_ready}
use Rattle.coord_world.specs.protocol.Links.{Link, LegalLink, one, aborts, acks, readies, readies_after, strays, is_converge, link}
use Rattle.coord_types.specs.NodeSet as set

-- ---- nodes

-- N alone: the invariant of a node under the rules
pub record SoundNode (r : NodeState) : Type 0 where
  -- a node is Abort exactly if it awaits somebody
  pub awaits : is_abort r.mode ≡ true → is_empty r.pend ≡ false
  pub quiet : is_abort r.mode ≡ false → is_empty r.pend ≡ true
  -- a Ready node has no parent, and a Converge node has one
  pub no_parent : r.mode ≡ Ready → r.parent ≡ None
  pub has_parent : r.mode ≡ Converge → r.parent ≡ None → ⊥
  -- the parent of a node is a neighbour that the node doesn't await
  pub parent_outside : (v : ℕ) → is_parent r.parent v ≡ true → set.contains r.pend v ≡ false
  pub parent_near : (v : ℕ) → is_parent r.parent v ≡ true → set.contains r.neighbours v ≡ true
  -- a node awaits neighbours alone
  pub within : (v : ℕ) → set.contains r.pend v ≡ true → set.contains r.neighbours v ≡ true

-- the invariant of a node's epochs and its distance, in a world of this many steps
pub record EpochsFit (count : ℕ) (r : NodeState) : Type 0 where
  pub confirmed : r.confirmed ≤ r.epoch
  pub entered : r.epoch ≤ count
  pub ready : r.mode ≡ Ready → r.distance ≡ 0
  pub within : is_ready r.mode ≡ false → r.distance < count

-- the facts from the tests
pub sound_node : (count : ℕ) (r : NodeState) → is_legal_node count r ≡ true → SoundNode r
sound_node count r is = record {
  awaits = λ h. grind (arith, nat_tests, is, h);
  quiet = λ h. grind (arith, nat_tests, is, h);
  no_parent = λ h. grind (arith, nat_tests, is, h);
  has_parent = λ h e. grind (arith, nat_tests, is, h, e);
  parent_outside = λ v h. grind (arith, nat_tests, is, h);
  parent_near = λ v h. grind (arith, nat_tests, is, h);
  within = contains-subset r.pend r.neighbours (grind (arith, nat_tests, is));
}

pub epochs_fit : (count : ℕ) (r : NodeState) → is_legal_node count r ≡ true → EpochsFit count r
epochs_fit count r is = record {
  confirmed = grind (arith, nat_tests, is);
  entered = grind (arith, nat_tests, is);
  ready = λ h. grind (arith, nat_tests, is, h);
  within = λ h. grind (arith, nat_tests, is, h);
}

-- the tests from the facts
pub legal_node : (count : ℕ) (r : NodeState) → SoundNode r → EpochsFit count r → is_legal_node count r ≡ true
legal_node count r sound fit =
    let within : set.is_subset r.pend r.neighbours ≡ true = is_subset_by r.pend r.neighbours sound.within in
    let near : is_parent_near r.parent r.pend r.neighbours ≡ true = near_to r.parent r.pend r.neighbours sound.parent_outside sound.parent_near in
    grind (arith, nat_tests, within, near, sound.awaits, sound.quiet, sound.no_parent, sound.has_parent, fit.confirmed, fit.entered, fit.ready, fit.within)
  where
    near_to : (o : Option ℕ) (pend near : NodeSet) → ((v : ℕ) → is_parent o v ≡ true → set.contains pend v ≡ false) → ((v : ℕ) → is_parent o v ≡ true → set.contains near v ≡ true) → is_parent_near o pend near ≡ true
    near_to None pend near outside close = refl
    near_to (Some p) pend near outside close = grind (arith, nat_tests, outside p, close p)

-- ---- links

-- B to H, as the sender of `out` sees them
pub record SoundLink (l : Link) : Type 0 where
  pub counted : aborts l.out + one (is_abort l.there.mode && l.there.child) + acks l.back ≡ one l.here.awaits
  pub one_ready : readies l.out ≤ 1
  pub ready_first : readies_after l.out ≡ 0
  pub converged : is_converge l.there.mode ≡ true → l.there.child ≡ true → is_ready l.here.mode ≡ true → 1 ≤ readies l.out
  pub one_parent : l.here.child ≡ true → l.there.child ≡ false
  pub no_ready : is_ready l.here.mode ≡ false → l.here.child ≡ false → aborts l.out ≡ 0 → readies l.out ≡ 0
  pub carried : strays l.here.carries l.out ≡ 0
  pub distant : is_ready l.there.mode ≡ false → l.there.child ≡ true → readies l.out ≡ 0 → l.there.distance ≡ l.here.carries

-- the facts from the tests
pub sound_link : (l : Link) → LegalLink l → SoundLink l
sound_link l legal = record {
  counted = grind (arith, nat_tests, legal.ack_in_one_place);
  one_ready = grind (arith, nat_tests, legal.one_ready_at_most);
  ready_first = grind (arith, nat_tests, legal.readies_first);
  converged = λ a b c. grind (arith, nat_tests, legal.ready_for_child, a, b, c);
  one_parent = λ a. grind (arith, nat_tests, legal.one_parent_at_most, a);
  no_ready = λ a b c. grind (arith, nat_tests, legal.no_early_ready, a, b, c);
  carried = grind (arith, nat_tests, legal.right_distances);
  distant = λ a b c. grind (arith, nat_tests, legal.right_distances, a, b, c);
}

-- the tests from the facts
pub legal_link : (l : Link) → SoundLink l → LegalLink l
legal_link l sound = record {
  ack_in_one_place = grind (arith, nat_tests, sound.counted);
  one_ready_at_most = grind (arith, nat_tests, sound.one_ready);
  readies_first = grind (arith, nat_tests, sound.ready_first);
  ready_for_child = grind (arith, nat_tests, sound.converged);
  one_parent_at_most = grind (arith, nat_tests, sound.one_parent);
  no_early_ready = grind (arith, nat_tests, sound.no_ready);
  right_distances = grind (arith, nat_tests, sound.carried, sound.distant);
}

-- ---- views

-- the structure and the predicates of an ideal world, which the rules keep together
pub record Sound (w : Ideal) : Type 0 where
  pub links : (x y : ℕ) → contains (w.state x).neighbours y ≡ true → SoundLink (link w x y)
  pub nodes : (x : ℕ) → SoundNode (w.state x)
  pub linked : (x y : ℕ) → w.linked x y ≡ contains (w.state x).neighbours y
  pub mirrored : (x y : ℕ) → contains (w.state x).neighbours y ≡ contains (w.state y).neighbours x
  pub apart : (x : ℕ) → contains (w.state x).neighbours x ≡ false
