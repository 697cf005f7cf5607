-- A legal world in its ranges has a sound view.
use Rattle.std.proofs.Common.{◌≡◌, ℕ, Option, Some, None, refl, sym, ◌∙◌}
use Rattle.coord_types.specs.Facade.{NodeState, get}
use Rattle.coord_tables.proofs.LinkLanes.{lane-apart, lane-mirrored}
use Rattle.coord_world.specs.Facade.{InRange, Legal, World, link, state, state_or_none, view}
use Rattle.coord_world.proofs.legal.Sound.{sound_link, SoundNode, sound_node, Sound}
use Rattle.coord_world.proofs.legal.RulesKept.{new_legal}

-- a predicate on a new node and on each present node holds at every number
pub at_each : (w : World) (P : NodeState → Type 0) → P (state_or_none None) → ((u : ℕ) (r : NodeState) → get w.nodes u ≡ Some r → P r) → (u : ℕ) → P (state w u)
at_each w P none some u = of_option (get w.nodes u) refl
  where
    of_option : (o : Option NodeState) → get w.nodes u ≡ o → P (state_or_none o)
    of_option None is = none
    of_option (Some r) is = some u r is

-- the structure by the ranges, the predicates by legality
pub sound_view : (w : World) → InRange w → Legal w → Sound (view w)
sound_view w range legal = record {
  links = λ x y near. sound_link (link (view w) x y) (legal.links x y (range.linked x y ∙ near));
  nodes = at_each w SoundNode (new_legal 0) (λ u r is. sound_node w.count r (legal.nodes u r is));
  linked = range.linked;
  mirrored = λ x y. sym (range.linked x y) ∙ lane-mirrored w.links x y ∙ range.linked y x;
  apart = λ x. sym (range.linked x x) ∙ lane-apart w.links range.turned x;
}
