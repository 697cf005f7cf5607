-- A fresh step keeps the ranges of a world.
use Rattle.std.proofs.Common.{◌≡◌, ℕ, ◌+◌, ◌≤◌, true, List, [], ◌∷◌, Option, Some, None, refl, sym, ◌∙◌, subst, arith, is_some}
use Rattle.coord_types.specs.Facade.{NodeState, contains}
use Rattle.std.proofs.lemmas.Bool.Decides.{nat_tests}
use Rattle.coord_types.specs.Table.{get, has, len}
use Rattle.coord_types.specs.declared.steps.Command.TheVariants.{Add, Remove, Join, Drop, Reset, Confirm}
use Rattle.coord_types.specs.declared.steps.Step.{Step}
use Rattle.coord_types.specs.declared.steps.Step.TheVariants.{Order, Take, Clear}
use Rattle.coord_types.proofs.Sets.{contains-empty}
use Rattle.coord_link.specs.LaneMachine.{new_lane, took}
use Rattle.coord_node.specs.Facade.{Transition, is_parent, transitions, transitions_ordered}
use Rattle.coord_world.specs.Facade.{InRange, IsFresh, IsNode, NodeInRange, World, is_linked, next, on_lane, state, state_or_none, view, with_command, with_transition, with_transitions}
use Rattle.coord_world.specs.laws.Laws.{NextKeepsRanges}
use Rattle.coord_world.proofs.Acceptance.{fresh_count, fresh_order}
use Rattle.coord_world.proofs.ranges.OneGroup.{OneGroup, group_next}
use Rattle.coord_world.proofs.ranges.InRange.{inc_next, lane_ranges_next, nodes_next, sessions_next}
use Rattle.coord_world.proofs.legal.NextKeepsLegal.{sound_after}
use Rattle.coord_world.proofs.View.{view_next}
use Rattle.coord_world.proofs.ranges.Distances.{carried_next, distances_next, same_version}
use Rattle.coord_tables.proofs.LinkLanes.{turned-changed, turned-joined, turned-parted}
use Rattle.coord_tables.specs.Links.{Turned, ends, joined}
use Rattle.coord_world.proofs.ranges.EveryNode.{AllRows, there_is}
use Rattle.coord_world.proofs.lanes.LaneNumbers.{lane_short}
use Rattle.coord_world.proofs.lists.TableLen.{len-change, len-insert, len-remove}
use Rattle.coord_world.proofs.legal.Sound.{Sound}
use Rattle.coord_world.proofs.legal.SoundView.{sound_view}

-- if the lanes are those that the nodes name, each has a source node
pub ends_known : (w : World) → Sound (view w) → (u v : ℕ) → is_linked w u v ≡ true → has w.nodes u ≡ true
ends_known w sound u v linked = of_option (get w.nodes u) (sym (sound.linked u v) ∙ linked)
  where
    of_option : (o : Option NodeState) → contains (state_or_none o).neighbours v ≡ true → is_some o ≡ true
    of_option None e = grind (arith, contains-empty v)
    of_option (Some r) e = refl

-- the neighbours of a node are nodes
pub near_known : (w : World) (count : ℕ) → Sound (view w) → AllRows (NodeInRange count) w.nodes → (u v : ℕ) → contains (state w u).neighbours v ≡ true → IsNode v
near_known w count sound nodes u v near =
    let back : is_linked w v u ≡ true = sound.linked v u ∙ sound.mirrored v u ∙ near in
    let within = nodes v (state w v) (there_is w v (ends_known w sound v u back)) in
    (within.least, within.greatest)

-- a parent is a neighbour
parent_is : (o : Option ℕ) (p : ℕ) → o ≡ Some p → is_parent o p ≡ true
parent_is o p is = grind (arith, nat_tests, is)

-- transitions make and drop no lane
len-all_do : (w : World) (ds : List (ℕ × Transition)) → len (with_transitions w ds).links ≡ len w.links
len-all_do w [] = refl
len-all_do w (d ∷ ds) = len-all_do (with_transition w d.0 d.1) ds ∙ len-change _ w.links

-- a step makes at most one link, and only if there are fewer than 128
pub links_next : (w settled : World) (s : Step) → InRange w → IsFresh w settled s → len (next w s).links ≤ 128
links_next w settled (Order c n (Add u g)) range fresh = range.links
links_next w settled (Order c n (Remove u)) range fresh = range.links
links_next w settled (Order c n (Join a b)) range fresh =
    let room = (fresh_order w settled c n (Join a b) fresh).room in
    let l = new_lane (w.count + 1) in
    let one : len (joined w.links a b l) ≤ len w.links + 1 = grind (arith, len-insert w.links (ends a b) (record { forth = l; back = l })) in
    omega (arith, room, one)
links_next w settled (Order c n (Drop a b)) range fresh =
    let fewer : len (with_command w (Drop a b)).links ≤ 128 = omega (arith, range.links, len-remove w.links (ends a b)) in
    rw (len-all_do (with_command w (Drop a b)) (transitions_ordered w.version (state w) (Drop a b))) fewer
links_next w settled (Order c n (Reset u)) range fresh = rw (len-all_do w (transitions_ordered w.version (state w) (Reset u))) range.links
links_next w settled (Order c n (Confirm u e)) range fresh = range.links
links_next w settled (Take p) range fresh = rw (len-all_do (on_lane w p.from p.to took) (transitions w.version (state w) (Take p)) ∙ len-change _ w.links) range.links
links_next w settled (Clear p) range fresh = rw (len-change _ w.links) range.links

-- transitions leave the links turned
turned-all_do : (w : World) (ds : List (ℕ × Transition)) → Turned w.links → Turned (with_transitions w ds).links
turned-all_do w [] turned = turned
turned-all_do w (d ∷ ds) turned = turned-all_do (with_transition w d.0 d.1) ds (turned-changed _ w.links turned)

-- a step leaves the links turned
pub turned_next : (w settled : World) (s : Step) → Turned w.links → IsFresh w settled s → Turned (next w s).links
turned_next w settled (Order c n (Add u g)) turned fresh = turned
turned_next w settled (Order c n (Remove u)) turned fresh = turned
turned_next w settled (Order c n (Join a b)) turned fresh = turned-joined w.links a b (new_lane (w.count + 1)) (fresh_order w settled c n (Join a b) fresh).apart turned
turned_next w settled (Order c n (Drop a b)) turned fresh = turned-all_do (with_command w (Drop a b)) (transitions_ordered w.version (state w) (Drop a b)) (turned-parted w.links a b turned)
turned_next w settled (Order c n (Reset u)) turned fresh = turned-all_do w (transitions_ordered w.version (state w) (Reset u)) turned
turned_next w settled (Order c n (Confirm u e)) turned fresh = turned
turned_next w settled (Take p) turned fresh = turned-all_do (on_lane w p.from p.to took) (transitions w.version (state w) (Take p)) (turned-changed _ w.links turned)
turned_next w settled (Clear p) turned fresh = turned-changed _ w.links turned

-- all ranges together
pub ranges_next : NextKeepsRanges
ranges_next w settled s within range legal fresh =
    let sound = sound_after w settled s range legal fresh in
    let groups : OneGroup (view (next w s)) = subst OneGroup (sym (view_next w settled s legal.lanes fresh)) (group_next w settled (sound_view w range legal) range.one_group s fresh) in
    let nodes = nodes_next w settled s within range fresh in
    record {
      first = rw (same_version w s) range.first;
      last = rw (same_version w s) range.last;
      count = fresh_count w settled s fresh;
      nodes = nodes;
      distances = λ u r is. rw (same_version w s) (distances_next w settled s range fresh u r is);
      carried = λ u v l is. rw (same_version w s) (carried_next w settled s range fresh u v l is);
      lanes = lane_ranges_next w s range;
      short = λ u v l is. (lane_short (next w s) u v l sound is).queued;
      awaited = λ u k awaits. near_known (next w s) (w.count + 1) sound nodes u k ((sound.nodes u).within k awaits);
      parents = λ u p is. near_known (next w s) (w.count + 1) sound nodes u p ((sound.nodes u).parent_near p (parent_is (state (next w s) u).parent p is));
      sessions = sessions_next w range settled s within fresh;
      links = links_next w settled s range fresh;
      linked = sound.linked;
      turned = turned_next w settled s range.turned fresh;
      ends = ends_known (next w s) sound;
      one_group = groups;
      one_incarnation = inc_next w s range;
    }
