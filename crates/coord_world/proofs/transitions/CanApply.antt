-- What a step that a world is ready for asks of the program is there.
use Rattle.std.proofs.Common.{◌≡◌, ◌≢◌, ℕ, ◌-◌, ◌^◌, ◌<◌, false, Option, Some, None, IsSome, refl, ap, ◌∙◌, arith, lit<, is_some}
use Rattle.coord_types.specs.Table.{get, len}
use Rattle.coord_types.specs.declared.packets.DataPacket.{DataPacket}
use Rattle.coord_types.specs.declared.steps.Command.TheVariants.{Confirm, Join, Drop, Reset}
use Rattle.coord_types.specs.declared.steps.Step.TheVariants.{Order, Take}
use Rattle.coord_link.specs.LaneMachine.{Lane, took}
use Rattle.coord_node.specs.Rules.{request, lost, transition}
use Rattle.coord_tables.proofs.LinkLanes.{lane-mirrored}
use Rattle.coord_world.specs.Facade.{InRange, World, carried, lane_at, on_lane, state, with_command, with_transition}
use Rattle.coord_world.specs.code.Fronts.{AreNumbered}
use Rattle.coord_world.specs.code.NodeTransitions.{CanApply}
use Rattle.coord_world.specs.code.Ready.{IsReadyFor}
use Rattle.coord_world.proofs.ranges.Distances.{carried_within, farthest_le}
use Rattle.coord_world.proofs.Acceptance.{fresh_take, fresh_order}
use Rattle.coord_world.proofs.lanes.PlaceForTransition.{room_take, room_reset, room_drop_first, room_drop_second}
use Rattle.coord_world.proofs.legal.SoundView.{at_each}

module _ (w : World) (range : InRange w) where
  -- an epoch can rise by one
  pub epoch_room : (u : ℕ) → (state w u).epoch < 2 ^ 64 - 1
  epoch_room u = at_each w (λ r. r.epoch < 2 ^ 64 - 1) (lit< tt) (λ v r there. let most = (range.nodes v r there).epoch in let count = range.count in omega arith) u

  -- a lane's numbers can rise by one
  pub got_room : (u v : ℕ) (l : Lane) → lane_at w.links u v ≡ Some l → l.got < 2 ^ 64 - 1
  got_room u v l there = let most = (range.lanes u v l there).got in let count = range.count in omega arith

  pub base_room : (u v : ℕ) (l : Lane) → lane_at w.links u v ≡ Some l → l.base < 2 ^ 64 - 1
  base_room u v l there = let most = (range.lanes u v l there).base in let count = range.count in omega arith

  pub front_room : (u v : ℕ) (l : Lane) → lane_at w.links u v ≡ Some l → l.base < 2 ^ 64 - 2
  front_room u v l there = let most = (range.lanes u v l there).base in let count = range.count in omega arith

  pub are_numbered : AreNumbered w.links
  are_numbered = base_room

-- a packet that is taken carries a distance that can rise by one
pub near_room : (w : World) (p : DataPacket) → IsReadyFor w (Take p) → carried p.msg < 2 ^ 64 - 1
near_room w p ready =
    let near = carried_within w w (Take p) ready.ranges ready.fresh in
    let count = ready.ranges.count in
    omega (arith, near, count, farthest_le w.version w.count)

module _ (w : World) (c n : ℕ) where
  pub reset_there : (u : ℕ) → IsReadyFor w (Order c n (Reset u)) → IsSome (get w.nodes u)
  reset_there u ready = fresh_order w w c n (Reset u) ready.fresh

  pub join_there : (a b : ℕ) → IsReadyFor w (Order c n (Join a b)) → IsSome (get w.nodes a) × IsSome (get w.nodes b)
  join_there a b ready = let joinable = fresh_order w w c n (Join a b) ready.fresh in (joinable.first, joinable.second)

  pub join_room : (a b : ℕ) → IsReadyFor w (Order c n (Join a b)) → len w.links < 2 ^ 8 - 1
  join_room a b ready = let few = (fresh_order w w c n (Join a b) ready.fresh).room in omega (arith, few)

  pub join_apart : (a b : ℕ) → IsReadyFor w (Order c n (Join a b)) → a ≢ b
  join_apart a b ready = (fresh_order w w c n (Join a b) ready.fresh).apart

  pub join_free : (a b : ℕ) → IsReadyFor w (Order c n (Join a b)) → lane_at w.links a b ≡ None
  join_free a b ready = none (lane_at w.links a b) (fresh_order w w c n (Join a b) ready.fresh).free
    where
      none : (o : Option Lane) → is_some o ≡ false → o ≡ None
      none None is = refl
      none (Some l) is = cc

  pub confirm_there : (u e : ℕ) → IsReadyFor w (Order c n (Confirm u e)) → IsSome (get w.nodes u)
  confirm_there u e ready = (fresh_order w w c n (Confirm u e) ready.fresh).there

  pub drop_linked : (a b : ℕ) → IsReadyFor w (Order c n (Drop a b)) → IsSome (lane_at w.links a b)
  drop_linked a b ready = (fresh_order w w c n (Drop a b) ready.fresh).linked

  pub drop_there : (a b : ℕ) → IsReadyFor w (Order c n (Drop a b)) → IsSome (get w.nodes a) × IsSome (get w.nodes b)
  drop_there a b ready = let droppable = fresh_order w w c n (Drop a b) ready.fresh in (droppable.first, droppable.second)

  pub can_reset : (u : ℕ) → IsReadyFor w (Order c n (Reset u)) → CanApply w u (request w.version (state w u)) w.links
  can_reset u ready = record {
    there = reset_there u ready;
    epoch = epoch_room w ready.ranges u;
    room = room_reset w w ready.ranges ready.legal c n u ready.fresh;
  }

  pub can_drop_first : (a b : ℕ) → IsReadyFor w (Order c n (Drop a b)) → CanApply w a (lost (state w a) b) (with_command w (Drop a b)).links
  can_drop_first a b ready = record {
    there = (drop_there a b ready).0;
    epoch = epoch_room w ready.ranges a;
    room = room_drop_first w w ready.ranges ready.legal c n a b ready.fresh;
  }

  pub can_drop_second : (a b : ℕ) → IsReadyFor w (Order c n (Drop a b)) → CanApply w b (lost (state w b) a) (with_transition (with_command w (Drop a b)) a (lost (state w a) b)).links
  can_drop_second a b ready = record {
    there = (drop_there a b ready).1;
    epoch = epoch_room w ready.ranges b;
    room = room_drop_second w w ready.ranges ready.legal c n a b ready.fresh;
  }

pub can_take : (w : World) (p : DataPacket) → IsReadyFor w (Take p) → CanApply w p.to (transition w.version p.msg (state w p.to) p.from) (on_lane w p.from p.to took).links
can_take w p ready = record {
  there = ready.ranges.ends p.to p.from (lane-mirrored w.links p.to p.from ∙ ap is_some (fresh_take w w p ready.fresh).there);
  epoch = epoch_room w ready.ranges p.to;
  room = room_take w w ready.ranges ready.legal p ready.fresh;
}
