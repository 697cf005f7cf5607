-- Nodes, lanes and sessions stay in their ranges through a step.
use Rattle.std.proofs.Common.{ℕ, ◌+◌, ap, arith, ◌≡◌, Bool, true, false, Some, cond, sym, ◌∙◌, ◌≤◌, Option, None, eqb, refl}
use Rattle.std.proofs.lemmas.Bool.Decides.{nat_tests}
use Rattle.coord_types.specs.declared.steps.Command.TheVariants.{Add, Join}
use Rattle.coord_types.specs.declared.steps.Step.{Step}
use Rattle.coord_types.specs.declared.steps.Step.TheVariants.{Order, Take, Clear}
use Rattle.coord_types.proofs.Sets.{len-empty}
use Rattle.coord_world.specs.Facade.{InRange, IsFresh, NodeInRange, StepInRange, World, next, LaneInRange, lane_at, state, with_command, SessionInRange, answers, last_number, reply}
use Rattle.coord_world.proofs.ranges.EveryNode.{Adds, AllRows, Carries, carried_by, rows_next}
use Rattle.coord_world.proofs.lists.TableLen.{len-insert_le}
use Rattle.coord_link.specs.LaneMachine.{Lane, new_lane}
use Rattle.coord_node.specs.Facade.{is_link, transitions, kind_ordered}
use Rattle.coord_world.proofs.lanes.EveryLane.{AllLanes, Any, LaneCarries, Makes, all_any, lanes_next}
use Rattle.coord_world.proofs.lists.GetAfter.{lane_made, each_made}
use Rattle.coord_types.specs.NodeState.{NodeState}
use Rattle.coord_types.specs.Table.{get, insert}
use Rattle.coord_types.specs.declared.steps.Command.{Command}
use Rattle.coord_types.specs.declared.steps.Session.{Session}
use Rattle.coord_tables.proofs.Found.{get-set}
use Rattle.coord_world.proofs.Acceptance.{fresh_number}
use Rattle.coord_types.specs.NodeSet as set

-- ---- nodes

-- each change of a node keeps its ranges, as the count rises
carries_node : (count n : ℕ) → Carries n (NodeInRange count) (NodeInRange (count + 1))
carries_node count n = record {
  weaken = λ x r within. record {
    least = within.least;
    greatest = within.greatest;
    group_least = within.group_least;
    group_greatest = within.group_greatest;
    epoch = omega (arith, within.epoch);
    confirmed = omega (arith, within.confirmed);
    degree = within.degree;
  };
  goes = λ x r s near within room goes. record {
    least = within.least;
    greatest = within.greatest;
    group_least = omega (arith, within.group_least, goes.group);
    group_greatest = omega (arith, within.group_greatest, goes.group);
    epoch = omega (arith, within.epoch, goes.most);
    confirmed = omega (arith, within.confirmed, goes.confirmed);
    degree = omega (arith, within.degree, ap set.len goes.neighbours);
  };
  confirm = λ x r e within entered. record {
    least = within.least;
    greatest = within.greatest;
    group_least = within.group_least;
    group_greatest = within.group_greatest;
    epoch = omega (arith, within.epoch);
    confirmed = omega (arith, within.epoch);
    degree = within.degree;
  };
  widen = λ x r v within room. record {
    least = within.least;
    greatest = within.greatest;
    group_least = within.group_least;
    group_greatest = within.group_greatest;
    epoch = omega (arith, within.epoch);
    confirmed = omega (arith, within.confirmed);
    degree = omega (arith, len-insert_le r.neighbours v);
  };
}

-- a node that is added is in its ranges
new_node : (count : ℕ) (s : Step) → StepInRange s → Adds (NodeInRange count) s
new_node count (Order c n (Add u g)) within =
    let ids = within.2 in
    record {
      least = ids.0.0;
      greatest = ids.0.1;
      group_least = ids.1;
      group_greatest = ids.2;
      epoch = omega arith;
      confirmed = omega arith;
      degree = omega (arith, len-empty);
    }
new_node count s within = tt

-- each node stays in its ranges through a fresh step
pub nodes_next : (w settled : World) (s : Step) → StepInRange s → InRange w → IsFresh w settled s → AllRows (NodeInRange (w.count + 1)) (next w s).nodes
nodes_next w settled s within range fresh =
    rows_next (NodeInRange w.count) (NodeInRange (w.count + 1)) w range.nodes settled s (carries_node w.count (carried_by s)) range (new_node (w.count + 1) s within) fresh

-- ---- lanes: the two of a link keep one incarnation

-- each change of a lane keeps its ranges, as the count rises
carries_lane : (count : ℕ) → LaneCarries Any (λ x y l. LaneInRange count l) (λ x y l. LaneInRange (count + 1) l)
carries_lane count = record {
  weaken = λ x y l within. record { made = within.made; inc = omega (arith, within.inc); base = omega (arith, within.base); got = omega (arith, within.got) };
  take = λ x y l within. record { made = within.made; inc = omega (arith, within.inc); base = omega (arith, within.base); got = omega (arith, within.got) };
  clear = λ x y l within. record { made = within.made; inc = omega (arith, within.inc); base = omega (arith, within.base); got = omega (arith, within.got) };
  send = λ x y l ms any within. record { made = within.made; inc = within.inc; base = within.base; got = within.got };
}

-- the number of the step is the incarnation of a new lane
makes_lane : (count : ℕ) (s : Step) → Makes (λ x y l. LaneInRange (count + 1) l) count s
makes_lane count (Order c n (Join a b)) = λ x y. record { made = omega arith; inc = omega arith; base = omega arith; got = omega arith }
makes_lane count s = tt

-- each lane keeps its ranges through a step
pub lane_ranges_next : (w : World) (s : Step) → InRange w → AllLanes (λ x y l. LaneInRange (w.count + 1) l) (next w s)
lane_ranges_next w s range = lanes_next Any (λ x y l. LaneInRange w.count l) (λ x y l. LaneInRange (w.count + 1) l) (carries_lane w.count) w range.lanes s (makes_lane w.count s) (all_any (transitions w.version (state w) s))

-- a lane was there before, of the same incarnation
abbrev Stems : World → ℕ → ℕ → Lane → Type 0
Stems w x y l = (k : Lane) × ((lane_at w.links x y ≡ Some k) × (k.inc ≡ l.inc))

-- no change of a lane changes its incarnation
carries_stems : (w : World) → LaneCarries Any (λ x y l. lane_at w.links x y ≡ Some l) (Stems w)
carries_stems w = grind (arith, nat_tests)

-- the two lanes of a link
abbrev OneInc : World → Type 0
OneInc w = (u v : ℕ) (l k : Lane) → lane_at w.links u v ≡ Some l → lane_at w.links v u ≡ Some k → l.inc ≡ k.inc

-- a step that makes no link leaves the incarnations
of_stems : (w : World) (s : Step) → InRange w → Makes (Stems w) w.count s → OneInc (next w s)
of_stems w s range makes u v l k out back =
    let all = lanes_next Any (λ x y l. lane_at w.links x y ≡ Some l) (Stems w) (carries_stems w) w (λ x y l is. is) s makes (all_any (transitions w.version (state w) s)) in
    let from = all u v l out in
    let to = all v u k back in
    sym from.1.1 ∙ range.one_incarnation u v from.0 to.0 from.1.0 to.1.0 ∙ to.1.1

-- a link that is made has one incarnation
inc_made : (w : World) (a b : ℕ) → InRange w → OneInc (with_command w (Join a b))
inc_made w a b range u v l k out back =
    let turned : is_link a b v u ≡ is_link a b u v = grind (arith, nat_tests) in
    either (is_link a b u v) (sym (lane_made w a b u v) ∙ out) (ap (λ t. cond t (Some (new_lane (w.count + 1))) (lane_at w.links v u)) (sym turned) ∙ sym (lane_made w a b v u) ∙ back)
  where
    either : (t : Bool) → cond t (Some (new_lane (w.count + 1))) (lane_at w.links u v) ≡ Some l → cond t (Some (new_lane (w.count + 1))) (lane_at w.links v u) ≡ Some k → l.inc ≡ k.inc
    either true e f = cc
    either false e f = range.one_incarnation u v l k e f

-- each link has one after a step
pub inc_next : (w : World) (s : Step) → InRange w → OneInc (next w s)
inc_next w (Order c n (Join a b)) range = inc_made w a b range
inc_next w s range = of_stems w s range tt

-- ---- sessions

-- a command is answered with one of its kinds
pub kind_answers : (rows : ℕ → NodeState) (x : Command) → answers x (kind_ordered rows x) ≡ true
kind_answers rows x = grind (arith, nat_tests)

-- an order alone becomes its client's last one
pub sessions_noted : (w : World) (c n : ℕ) (x : Command) → (next w (Order c n x)).sessions ≡ insert w.sessions c (record { number = n; command = x; reply = reply w (Order c n x) })
sessions_noted w c n x = grind (arith, nat_tests)

module _ (w : World) (range : InRange w) where
  -- sessions stay
  later : (c : ℕ) (o : Session) → get w.sessions c ≡ Some o → SessionInRange (w.count + 1) c o
  later c o is = grind (arith, nat_tests, is, range.sessions c o is)

  -- the last number of a client is within the count
  last_within : (c : ℕ) → last_number (get w.sessions c) ≤ w.count
  last_within c = of_option (get w.sessions c) refl
    where
      of_option : (o : Option Session) → get w.sessions c ≡ o → last_number o ≤ w.count
      of_option None is = omega arith
      of_option (Some o) is = (range.sessions c o is).last

  -- the session of an order that is taken
  noted : (settled : World) (c n : ℕ) (x : Command) → StepInRange (Order c n x) → IsFresh w settled (Order c n x) →
      SessionInRange (w.count + 1) c (record { number = n; command = x; reply = reply w (Order c n x) })
  noted settled c n x within fresh = record {
    least = within.0;
    greatest = within.1;
    ordered = within.2;
    first = omega (arith, fresh_number w settled c n x fresh);
    last = omega (arith, fresh_number w settled c n x fresh, last_within c);
    replied = omega arith;
    replied_by = omega arith;
    answered = kind_answers (state w) x;
  }

  -- each session after a fresh step
  pub sessions_next : (settled : World) (s : Step) → StepInRange s → IsFresh w settled s → (c : ℕ) (o : Session) → get (next w s).sessions c ≡ Some o → SessionInRange (w.count + 1) c o
  sessions_next settled (Order c n x) within fresh d o e =
      each_made (get w.sessions d) (eqb d c) (record { number = n; command = x; reply = reply w (Order c n x) }) (SessionInRange (w.count + 1) d)
      (λ t. let same : d ≡ c = grind (arith, nat_tests) in
      rw same (noted settled c n x within fresh))
      (λ _ p is. later d p is)
      o (sym (get-set w.sessions c (record { number = n; command = x; reply = reply w (Order c n x) }) d) ∙ ap (λ m. get m d) (sym (sessions_noted w c n x)) ∙ e)
  sessions_next settled (Take p) within fresh d o e = later d o e
  sessions_next settled (Clear p) within fresh d o e = later d o e
