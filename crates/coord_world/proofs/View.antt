-- What a step makes of the view is the ideal step.
use Rattle.std.proofs.Common.{◌≡◌, ℕ, ◌+◌, ◌≤◌, ◌&&◌, ◌++◌, Option, Some, None, refl, ap, ◌∙◌, arith, cond, eqb, is_some}
use Rattle.std.proofs.lemmas.Bool.Decides.{nat_tests}
use Rattle.coord_types.specs.Facade.{NodeState, after_front, get, no_node}
use Rattle.coord_types.specs.declared.steps.Command.TheVariants.{Drop, Join, Add, Remove, Reset, Confirm}
use Rattle.coord_types.proofs.Tables.{option_map}
use Rattle.coord_link.specs.LaneMachine.{Lane, sent, took, cleared, transit, new_lane}
use Rattle.coord_node.specs.Facade.{Transition, added, headed, ideal_applied, is_link, linked_up, set_state, with_neighbour, without_link, ideal_next, lost, request, transition}
use Rattle.coord_world.specs.Facade.{World, is_lane, lane_at, on_lane, state, state_or_none, transit_or_none, view, with_command, with_state, with_transition, IsFresh, next}
use Rattle.coord_tables.proofs.Cases.{by_test}
use Rattle.coord_world.proofs.lanes.LaneNumbers.{AllCount, it_is, was_taken, counts_done, counts_left, counts_made, counts_took, counts_cleared}
use Rattle.coord_tables.proofs.Found.{get-set, get-unset}
use Rattle.coord_world.proofs.lists.GetAfter.{lane_done, lane_on, lane_left, lane_made}
use Rattle.coord_world.proofs.lanes.Transit.{transit-sent, transit-took, transit-cleared}
use Rattle.coord_types.specs.declared.steps.Step.{Step}
use Rattle.coord_types.specs.declared.steps.Step.TheVariants.{Order, Take, Clear}
use Rattle.coord_types.specs.NodeState.{new_node}
use Rattle.coord_world.proofs.Acceptance.{fresh_take, fresh_clear}
use Rattle.coord_types.specs.Table as table

-- ---- each change of the world

-- a change of a lane leaves it there
some_mapped : (f : Lane → Lane) (o : Option Lane) → is_some (option_map f o) ≡ is_some o
some_mapped f o = grind (arith, nat_tests)

module _ (w : World) where
  -- a state is put
  pub view_set : (u : ℕ) (r : NodeState) → view (with_state w u r) ≡ set_state (view w) u r
  view_set u r i = record { version = w.version; state = λ x. rows x i; linked = (view w).linked; in_transit = (view w).in_transit }
    where
      rows : (x : ℕ) → state_or_none (get (table.insert w.nodes u r) x) ≡ cond (eqb x u) r (state w x)
      rows x = ap state_or_none (get-set w.nodes u r x) ∙ grind (arith, nat_tests)

  -- a node is removed
  pub view_unset : (u : ℕ) → view (record w { nodes = table.remove w.nodes u }) ≡ set_state (view w) u no_node
  view_unset u i = record { version = w.version; state = λ x. rows x i; linked = (view w).linked; in_transit = (view w).in_transit }
    where
      rows : (x : ℕ) → state_or_none (get (table.remove w.nodes u) x) ≡ cond (eqb x u) no_node (state w x)
      rows x = ap state_or_none (get-unset w.nodes u x) ∙ grind (arith, nat_tests)

  -- a link is cut
  pub view_left : (a b : ℕ) → view (with_command w (Drop a b)) ≡ without_link (view w) a b
  view_left a b i = record {
    version = w.version;
    state = state w;
    linked = λ x y. (ap is_some (lane_left w a b x y) ∙ links x y) i;
    in_transit = λ x y. (ap transit_or_none (lane_left w a b x y) ∙ ways x y) i;
  }
    where
      links : (x y : ℕ) → is_some (cond (is_link a b x y) None (lane_at w.links x y)) ≡ (without_link (view w) a b).linked x y
      links x y = grind (arith, nat_tests)

      ways : (x y : ℕ) → transit_or_none (cond (is_link a b x y) None (lane_at w.links x y)) ≡ (without_link (view w) a b).in_transit x y
      ways x y = grind (arith, nat_tests)

  -- a link is made
  pub view_made : (a b : ℕ) → view (with_command w (Join a b)) ≡ linked_up (view w) a b
  view_made a b i = record {
    version = w.version;
    state = λ x. rows x i;
    linked = λ x y. (ap is_some (lane_made w a b x y) ∙ links x y) i;
    in_transit = λ x y. (ap transit_or_none (lane_made w a b x y) ∙ ways x y) i;
  }
    where
      rows : (x : ℕ) → state (with_command w (Join a b)) x ≡ (linked_up (view w) a b).state x
      rows x = ap state_or_none (get-set (table.insert w.nodes a (with_neighbour (state w a) b)) b (with_neighbour (state w b) a) x
          ∙ ap (cond (eqb x b) (Some (with_neighbour (state w b) a))) (get-set w.nodes a (with_neighbour (state w a) b) x)) ∙ grind (arith, nat_tests)

      links : (x y : ℕ) → is_some (cond (is_link a b x y) (Some (new_lane (w.count + 1))) (lane_at w.links x y)) ≡ (linked_up (view w) a b).linked x y
      links x y = grind (arith, nat_tests)

      ways : (x y : ℕ) → transit_or_none (cond (is_link a b x y) (Some (new_lane (w.count + 1))) (lane_at w.links x y)) ≡ (linked_up (view w) a b).in_transit x y
      ways x y = grind (arith, nat_tests)

-- if the numbers fit the queues
module _ (w : World) (counts : AllCount w) where
  -- a transition over the numbers is the transition over the view
  pub view_done : (u : ℕ) (d : Transition) → view (with_transition w u d) ≡ ideal_applied (view w) u d
  view_done u d i = record {
    version = w.version;
    state = λ x. rows x i;
    linked = λ x y. (ap is_some (lane_done w u d x y) ∙ some_mapped _ (lane_at w.links x y)) i;
    in_transit = λ x y. (ap transit_or_none (lane_done w u d x y) ∙ ways x y (lane_at w.links x y) refl) i;
  }
    where
      rows : (x : ℕ) → state (with_transition w u d) x ≡ cond (eqb x u) d.state (state w x)
      rows x = ap state_or_none (get-set w.nodes u d.state x) ∙ grind (arith, nat_tests)

      ways : (x y : ℕ) (o : Option Lane) → lane_at w.links x y ≡ o →
          transit_or_none (option_map (λ l. cond (eqb x u) (sent (added d y) l) l) o) ≡ cond (eqb x u && is_some o) (transit_or_none o ++ added d y) (transit_or_none o)
      ways x y None e = grind (arith, nat_tests)
      ways x y (Some l) e = let following = transit-sent l (added d y) (counts x y l e) in grind (arith, nat_tests, following)

  -- a front that is taken leaves the way
  pub view_took : (v u : ℕ) (k : Lane) → lane_at w.links v u ≡ Some k → k.got ≡ k.base → view (on_lane w v u took) ≡ headed (view w) v u
  view_took v u k there idle i = record {
    version = w.version;
    state = state w;
    linked = λ x y. (ap is_some (lane_on w v u took x y) ∙ some_mapped _ (lane_at w.links x y)) i;
    in_transit = λ x y. (ap transit_or_none (lane_on w v u took x y) ∙ ways x y (lane_at w.links x y) refl) i;
  }
    where
      ways : (x y : ℕ) (o : Option Lane) → lane_at w.links x y ≡ o →
          transit_or_none (option_map (λ l. cond (is_lane (x, y) v u) (took l) l) o) ≡ cond (eqb x v && eqb y u) (after_front (transit_or_none o)) (transit_or_none o)
      ways x y None e = grind (arith, nat_tests)
      ways x y (Some l) e = by_test (is_lane (x, y) v u) (λ b. transit (cond b (took l) l) ≡ cond b (after_front (transit l)) (transit l))
          (λ t. transit-took l (rw (it_is w v u x y k l there e t) idle)) (λ _. refl)

  -- a front that is cleared was not on the way
  pub view_cleared : (u v : ℕ) (k : Lane) → lane_at w.links u v ≡ Some k → k.base + 1 ≤ k.got → view (on_lane w u v cleared) ≡ view w
  view_cleared u v k there more i = record {
    version = w.version;
    state = state w;
    linked = λ x y. (ap is_some (lane_on w u v cleared x y) ∙ some_mapped _ (lane_at w.links x y)) i;
    in_transit = λ x y. (ap transit_or_none (lane_on w u v cleared x y) ∙ ways x y (lane_at w.links x y) refl) i;
  }
    where
      ways : (x y : ℕ) (o : Option Lane) → lane_at w.links x y ≡ o → transit_or_none (option_map (λ l. cond (is_lane (x, y) u v) (cleared l) l) o) ≡ transit_or_none o
      ways x y None e = refl
      ways x y (Some l) e = by_test (is_lane (x, y) u v) (λ b. transit (cond b (cleared l) l) ≡ transit l)
          (λ t. transit-cleared l (was_taken l (counts x y l e) (rw (it_is w u v x y k l there e t) more)).0) (λ _. refl)

-- ---- the step

-- by the step
pub view_next : (w settled : World) (s : Step) → AllCount w → IsFresh w settled s → view (next w s) ≡ ideal_next (view w) s
view_next w settled (Order c n (Add u g)) counts fresh = view_set w u (new_node g)
view_next w settled (Order c n (Remove u)) counts fresh = view_unset w u
view_next w settled (Order c n (Join a b)) counts fresh = view_made w a b
view_next w settled (Order c n (Drop a b)) counts fresh =
    let da = lost (state w a) b in
    let db = lost (state w b) a in
    view_done (with_transition (with_command w (Drop a b)) a da) (counts_done (with_command w (Drop a b)) (counts_left w counts a b) a da) b db
    ∙ ap (λ v. ideal_applied v b db) (view_done (with_command w (Drop a b)) (counts_left w counts a b) a da)
    ∙ ap (λ v. ideal_applied (ideal_applied v a da) b db) (view_left w a b)
view_next w settled (Order c n (Reset u)) counts fresh = view_done w counts u (request w.version (state w u))
view_next w settled (Order c n (Confirm u e)) counts fresh = view_set w u (record (state w u) { confirmed = e })
view_next w settled (Take p) counts fresh =
    let taken = fresh_take w settled p fresh in
    let d = transition w.version p.msg (state w p.to) p.from in
    view_done (on_lane w p.from p.to took) (counts_took w counts p.from p.to taken.lane p.msg taken.rest taken.there taken.idle taken.front) p.to d
    ∙ ap (λ v. ideal_applied v p.to d) (view_took w counts p.from p.to taken.lane taken.there taken.idle)
view_next w settled (Clear p) counts fresh =
    let cleared = fresh_clear w settled p fresh in
    view_cleared w counts p.from p.to cleared.lane cleared.there cleared.more

-- the numbers fit the queues after it
pub counts_next : (w settled : World) (s : Step) → AllCount w → IsFresh w settled s → AllCount (next w s)
counts_next w settled (Order c n (Add u g)) counts fresh = counts
counts_next w settled (Order c n (Remove u)) counts fresh = counts
counts_next w settled (Order c n (Join a b)) counts fresh = counts_made w counts a b
counts_next w settled (Order c n (Drop a b)) counts fresh =
    counts_done (with_transition (with_command w (Drop a b)) a (lost (state w a) b)) (counts_done (with_command w (Drop a b)) (counts_left w counts a b) a (lost (state w a) b)) b (lost (state w b) a)
counts_next w settled (Order c n (Reset u)) counts fresh = counts_done w counts u (request w.version (state w u))
counts_next w settled (Order c n (Confirm u e)) counts fresh = counts
counts_next w settled (Take p) counts fresh =
    let taken = fresh_take w settled p fresh in
    counts_done (on_lane w p.from p.to took) (counts_took w counts p.from p.to taken.lane p.msg taken.rest taken.there taken.idle taken.front) p.to (transition w.version p.msg (state w p.to) p.from)
counts_next w settled (Clear p) counts fresh =
    let cleared = fresh_clear w settled p fresh in
    counts_cleared w counts p.from p.to cleared.lane cleared.there cleared.more
