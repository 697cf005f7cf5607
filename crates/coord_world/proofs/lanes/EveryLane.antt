-- What every lane keeps through a step, it keeps through each change of a lane.
use Rattle.std.proofs.Common.{◌≡◌, ℕ, ◌+◌, List, [], ◌∷◌, Some, cond, eqb, sym, ◌∙◌}
use Rattle.coord_types.specs.declared.messages.Msg.{Msg}
use Rattle.coord_types.specs.declared.steps.Command.TheVariants.{Add, Remove, Join, Drop, Reset, Confirm}
use Rattle.coord_types.specs.declared.steps.Step.{Step}
use Rattle.coord_types.specs.declared.steps.Step.TheVariants.{Order, Take, Clear}
use Rattle.coord_link.specs.LaneMachine.{Lane, cleared, new_lane, sent, took}
use Rattle.coord_node.specs.Facade.{Transition, added, is_link, transitions}
use Rattle.coord_world.specs.Facade.{World, is_lane, lane_at, next, on_lane, prepared, state, with_transition, with_transitions}
use Rattle.coord_tables.proofs.Cases.{by_test}
use Rattle.coord_world.proofs.lists.GetAfter.{lane_done, lane_on, lane_left, lane_made, each_changed, each_left, each_made}

-- a predicate on every lane, with its ends
abbrev pub AllLanes : (ℕ → ℕ → Lane → Type 0) → World → Type 0
AllLanes P w = (x y : ℕ) (l : Lane) → lane_at w.links x y ≡ Some l → P x y l

-- if P holds for a lane before a step that sends such messages, Q holds for the lane after it
pub record LaneCarries (M : List Msg → Type 0) (P Q : ℕ → ℕ → Lane → Type 0) : Type 0 where
  pub weaken : (x y : ℕ) (l : Lane) → P x y l → Q x y l
  pub take : (x y : ℕ) (l : Lane) → P x y l → Q x y (took l)
  pub clear : (x y : ℕ) (l : Lane) → P x y l → Q x y (cleared l)
  pub send : (x y : ℕ) (l : Lane) (ms : List Msg) → M ms → Q x y l → Q x y (sent ms l)

-- lanes that a step makes have it too
abbrev pub Makes : (ℕ → ℕ → Lane → Type 0) → ℕ → Step → Type 0
Makes Q count (Order c n (Join a b)) = (x y : ℕ) → Q x y (new_lane (count + 1))
Makes Q count s = Unit {0}

-- transitions send such messages
abbrev pub AllSend : (List Msg → Type 0) → List (ℕ × Transition) → Type 0
AllSend M [] = Unit {0}
AllSend M (d ∷ ds) = ((y : ℕ) → M (added d.1 y)) × AllSend M ds

-- any messages
abbrev pub Any : List Msg → Type 0
Any ms = Unit {0}

pub all_any : (ds : List (ℕ × Transition)) → AllSend Any ds
all_any [] = tt
all_any (d ∷ ds) = (λ y. tt, all_any ds)

module _ (M : List Msg → Type 0) (P Q : ℕ → ℕ → Lane → Type 0) (carries : LaneCarries M P Q) where
  -- messages join lanes
  all_done : (w : World) (ds : List (ℕ × Transition)) → AllSend M ds → AllLanes Q w → AllLanes Q (with_transitions w ds)
  all_done w [] sends all = all
  all_done w (d ∷ ds) sends all = all_done (with_transition w d.0 d.1) ds sends.1 (λ x y m e.
      each_changed (lane_at w.links x y) (λ l. cond (eqb x d.0) (sent (added d.1 y) l) l) (Q x y)
      (λ l is. by_test (eqb x d.0) (λ b. Q x y (cond b (sent (added d.1 y) l) l)) (λ _. carries.send x y l (added d.1 y) (sends.0 y) (all x y l is)) (λ _. all x y l is))
      m (sym (lane_done w d.0 d.1 x y) ∙ e))

  module _ (w : World) (before : AllLanes P w) where
    -- lanes stay
    later : AllLanes Q w
    later x y l is = carries.weaken x y l (before x y l is)

    -- one lane changes
    on_one : (u v : ℕ) (f : Lane → Lane) → ((x y : ℕ) (l : Lane) → P x y l → Q x y (f l)) → AllLanes Q (on_lane w u v f)
    on_one u v f changed x y m e = each_changed (lane_at w.links x y) (λ l. cond (is_lane (x, y) u v) (f l) l) (Q x y)
        (λ l is. by_test (is_lane (x, y) u v) (λ b. Q x y (cond b (f l) l)) (λ _. changed x y l (before x y l is)) (λ _. later x y l is))
        m (sym (lane_on w u v f x y) ∙ e)

    -- what a step does before any node acts
    all_prepared : (s : Step) → Makes Q w.count s → AllLanes Q (prepared w s)
    all_prepared (Order c n (Add u g)) makes = later
    all_prepared (Order c n (Remove u)) makes = later
    all_prepared (Order c n (Join a b)) makes = λ x y m e. each_made (lane_at w.links x y) (is_link a b x y) (new_lane (w.count + 1)) (Q x y) (λ _. makes x y) (λ _ l is. later x y l is)
        m (sym (lane_made w a b x y) ∙ e)
    all_prepared (Order c n (Drop a b)) makes = λ x y m e. later x y m (each_left (lane_at w.links x y) (is_link a b x y) m (sym (lane_left w a b x y) ∙ e))
    all_prepared (Order c n (Reset u)) makes = later
    all_prepared (Order c n (Confirm u e)) makes = later
    all_prepared (Take p) makes = on_one p.from p.to took carries.take
    all_prepared (Clear p) makes = on_one p.from p.to cleared carries.clear

    -- every lane after a step
    pub lanes_next : (s : Step) → Makes Q w.count s → AllSend M (transitions w.version (state w) s) → AllLanes Q (next w s)
    lanes_next (Order c n x) makes sends = all_done (prepared w (Order c n x)) (transitions w.version (state w) (Order c n x)) sends (all_prepared (Order c n x) makes)
    lanes_next (Take p) makes sends = all_done (prepared w (Take p)) (transitions w.version (state w) (Take p)) sends (all_prepared (Take p) makes)
    lanes_next (Clear p) makes sends = all_prepared (Clear p) makes
