-- A fresh step keeps the view sound, and so a world legal.
use Rattle.std.proofs.Common.{◌≡◌, ℕ, true, ◌∷◌, sym, ◌∙◌, ap, subst, arith, is_some, ◌+◌}
use Rattle.std.proofs.lemmas.Bool.Decides.{nat_tests}
use Rattle.coord_types.specs.Facade.{contains, no_node}
use Rattle.coord_types.specs.declared.steps.Command.{Command}
use Rattle.coord_types.specs.declared.steps.Command.TheVariants.{Add, Remove, Join, Drop, Reset, Confirm}
use Rattle.coord_types.specs.declared.steps.Step.{Step}
use Rattle.coord_types.specs.declared.steps.Step.TheVariants.{Order, Take, Clear}
use Rattle.coord_types.proofs.Sets.{len-empty}
use Rattle.coord_node.specs.Facade.{ideal_next, is_empty}
use Rattle.coord_world.specs.Facade.{IsFresh, World, lane_at, next, state, state_or_none, transit_or_none, view, InRange, Legal, link}
use Rattle.coord_world.proofs.lanes.LaneNumbers.{AllCount}
use Rattle.coord_world.proofs.legal.LinksKept.{drop_kept, join_kept}
use Rattle.coord_world.proofs.Acceptance.{fresh_take, Passes, fresh_order}
use Rattle.coord_world.proofs.View.{view_next, counts_next}
use Rattle.coord_world.proofs.legal.RulesKept.{confirm_kept, new_kept, reset_kept, taken_kept}
use Rattle.coord_world.proofs.legal.Sound.{Sound, legal_link, SoundNode, legal_node}
use Rattle.coord_world.specs.laws.Laws.{NextKeepsLegal}
use Rattle.coord_world.proofs.legal.EpochsFit.{epochs_next}
use Rattle.coord_world.proofs.legal.SoundView.{sound_view}

-- ---- the view

-- a new node has no neighbours
pub new_alone : is_empty no_node.neighbours ≡ true
new_alone = grind (arith, nat_tests, len-empty)

-- by the command
ordered_kept : (w : World) (c n : ℕ) (x : Command) → Sound (view w) → Passes w x → Sound (ideal_next (view w) (Order c n x))
ordered_kept w c n (Add u g) sound new = new_kept (view w) u sound g (ap (λ o. is_empty (state_or_none o).neighbours) new ∙ new_alone)
ordered_kept w c n (Remove u) sound removable = new_kept (view w) u sound 0 removable.alone
ordered_kept w c n (Join a b) sound joinable = join_kept (view w) a b joinable.apart joinable.free sound
ordered_kept w c n (Drop a b) sound droppable = drop_kept (view w) a b droppable.linked sound
ordered_kept w c n (Reset u) sound known = reset_kept (view w) u sound
ordered_kept w c n (Confirm u e) sound confirmable = confirm_kept (view w) u sound e

-- the ideal step of a fresh step
ideal_kept : (w settled : World) (s : Step) → Sound (view w) → IsFresh w settled s → Sound (ideal_next (view w) s)
ideal_kept w settled (Order c n x) sound fresh = ordered_kept w c n x sound (fresh_order w settled c n x fresh)
ideal_kept w settled (Take p) sound fresh =
    let take = fresh_take w settled p fresh in
    let out : contains (state w p.from).neighbours p.to ≡ true = sym (sound.linked p.from p.to) ∙ ap is_some take.there in
    let front : transit_or_none (lane_at w.links p.from p.to) ≡ p.msg ∷ take.rest = ap transit_or_none take.there ∙ grind (arith, nat_tests, take.idle) ∙ take.front in
    taken_kept (view w) p.from p.to p.msg take.rest front (sym (sound.mirrored p.from p.to) ∙ out) sound
ideal_kept w settled (Clear p) sound fresh = sound

-- a fresh step keeps a sound view sound
pub sound_next : (w settled : World) (s : Step) → Sound (view w) → AllCount w → IsFresh w settled s → Sound (view (next w s))
sound_next w settled s sound counts fresh = subst Sound (sym (view_next w settled s counts fresh)) (ideal_kept w settled s sound fresh)

-- ---- the world

-- the view of the world after a fresh step
pub sound_after : (w settled : World) (s : Step) → InRange w → Legal w → IsFresh w settled s → Sound (view (next w s))
sound_after w settled s range legal fresh = sound_next w settled s (sound_view w range legal) legal.lanes fresh

-- a fresh step keeps a legal world legal
pub legal_next : NextKeepsLegal
legal_next w settled s range legal fresh =
    let sound = sound_after w settled s range legal fresh in
    record {
      nodes = λ u r is. legal_node (w.count + 1) r (subst (λ o. SoundNode (state_or_none o)) is (sound.nodes u)) (epochs_next w settled s range legal fresh u r is);
      lanes = counts_next w settled s legal.lanes fresh;
      links = λ u v linked. legal_link (link (view (next w s)) u v) (sound.links u v (sym (sound.linked u v) ∙ linked));
    }
