-- What every node keeps through a step, it keeps through each change of a node.
use Rattle.std.proofs.Common.{◌≡◌, ℕ, ◌≤◌, true, Some, sym, ◌∙◌, ap, eqb, arith, is_some}
use Rattle.std.specs.Cmp.{nat_cmp_total}
use Rattle.std.proofs.lemmas.Bool.Decides.{nat_tests}
use Rattle.coord_types.specs.NodeSet as set
use Rattle.coord_types.specs.Facade.{NodeSet, NodeState, new_node}
use Rattle.coord_types.specs.Table.{Table, get, has, insert, remove}
use Rattle.coord_types.specs.declared.steps.Command.{Command}
use Rattle.coord_types.specs.declared.steps.Command.TheVariants.{Add, Remove, Join, Drop, Reset, Confirm}
use Rattle.coord_types.specs.declared.steps.Step.{Step}
use Rattle.coord_types.specs.declared.steps.Step.TheVariants.{Order, Take, Clear}
use Rattle.coord_node.specs.Rules.{with_neighbour}
use Rattle.coord_tables.proofs.LinkLanes.{lane-mirrored}
use Rattle.coord_world.specs.Facade.{InRange, IsFresh, World, carried, next, state}
use Rattle.coord_world.proofs.transitions.RuleCases.{Goes, goes_transition, goes_lost, goes_request}
use Rattle.coord_world.proofs.Acceptance.{fresh_take, Passes, fresh_order}
use Rattle.coord_tables.proofs.Found.{get-set, get-unset}
use Rattle.coord_world.proofs.lists.GetAfter.{each_left, each_made}
use Rattle.coord_world.proofs.lists.TableLen.{len-remove_le}

-- the distance that a step carries to a node
abbrev pub carried_by : Step → ℕ
carried_by (Order c n x) = 0
carried_by (Take p) = carried p.msg
carried_by (Clear p) = 0

-- if P holds for a node before a step that carries this distance to it, Q holds for the node after it
pub record Carries (n : ℕ) (P Q : ℕ → NodeState → Type 0) : Type 0 where
  pub weaken : (x : ℕ) (r : NodeState) → P x r → Q x r
  pub goes : (x : ℕ) (r s : NodeState) (near : NodeSet) → P x r → set.len near ≤ set.len r.neighbours → Goes r near n s → Q x s
  pub confirm : (x : ℕ) (r : NodeState) (e : ℕ) → P x r → e ≤ r.epoch → Q x (record r { confirmed = e })
  pub widen : (x : ℕ) (r : NodeState) (v : ℕ) → P x r → set.len r.neighbours ≤ 15 → Q x (with_neighbour r v)

-- a predicate on every node, with its number
abbrev pub AllRows : (ℕ → NodeState → Type 0) → Table nat_cmp_total NodeState → Type 0
AllRows P rows = (x : ℕ) (r : NodeState) → get rows x ≡ Some r → P x r

-- a node that a step adds has it too
abbrev pub Adds : (ℕ → NodeState → Type 0) → Step → Type 0
Adds Q (Order c n (Add u g)) = Q u (new_node g)
Adds Q s = Unit {0}

-- a node is put
all_set : (Q : ℕ → NodeState → Type 0) (rows : Table nat_cmp_total NodeState) (u : ℕ) (s : NodeState) → AllRows Q rows → Q u s → AllRows Q (insert rows u s)
all_set Q rows u s all here x r e = each_made (get rows x) (eqb x u) s (Q x) (λ t. let same : x ≡ u = grind (arith, nat_tests) in rw same here) (λ _ r is. all x r is)
    r (sym (get-set rows u s x) ∙ e)

-- a node is removed
all_unset : (Q : ℕ → NodeState → Type 0) (rows : Table nat_cmp_total NodeState) (u : ℕ) → AllRows Q rows → AllRows Q (remove rows u)
all_unset Q rows u all x r e = all x r (each_left (get rows x) (eqb x u) r (sym (get-unset rows u x) ∙ e))

-- a node that is there has its state
pub there_is : (w : World) (u : ℕ) → has w.nodes u ≡ true → get w.nodes u ≡ Some (state w u)
there_is w u h1 = grind (arith, nat_tests, h1)

module _ (P Q : ℕ → NodeState → Type 0) (w : World) (n : ℕ) (carries : Carries n P Q) (before : AllRows P w.nodes) where
  -- nodes stay
  later : AllRows Q w.nodes
  later x r is = carries.weaken x r (before x r is)

  module _ (u : ℕ) (known : has w.nodes u ≡ true) where
    -- of a node that is there
    here : P u (state w u)
    here = before u (state w u) (there_is w u known)

    -- a transition of it that keeps its neighbours
    same_near : (s : NodeState) → Goes (state w u) (state w u).neighbours n s → Q u s
    same_near s goes = carries.goes u (state w u) s (state w u).neighbours here (omega arith) goes

    -- a transition of the node that leaves a neighbour out
    less_near : (v : ℕ) (s : NodeState) → Goes (state w u) (set.remove (state w u).neighbours v) n s → Q u s
    less_near v s goes = carries.goes u (state w u) s (set.remove (state w u).neighbours v) here (len-remove_le (state w u).neighbours v) goes

module _ (P Q : ℕ → NodeState → Type 0) (w : World) (before : AllRows P w.nodes) where
  -- by the command
  ordered_rows : (c n : ℕ) (x : Command) → Carries 0 P Q → Passes w x → Adds Q (Order c n x) → AllRows Q (next w (Order c n x)).nodes
  ordered_rows c n (Add u g) carries new adds = all_set Q w.nodes u (new_node g) (later P Q w 0 carries before) adds
  ordered_rows c n (Remove u) carries removable adds = all_unset Q w.nodes u (later P Q w 0 carries before)
  ordered_rows c n (Join a b) carries joinable adds =
      all_set Q _ b _ (all_set Q w.nodes a _ (later P Q w 0 carries before) (carries.widen a (state w a) b (here P Q w 0 carries before a joinable.first) joinable.first_room))
      (carries.widen b (state w b) a (here P Q w 0 carries before b joinable.second) joinable.second_room)
  ordered_rows c n (Drop a b) carries droppable adds =
      all_set Q _ b _ (all_set Q w.nodes a _ (later P Q w 0 carries before) (less_near P Q w 0 carries before a droppable.first b _ (goes_lost (state w a) b)))
      (less_near P Q w 0 carries before b droppable.second a _ (goes_lost (state w b) a))
  ordered_rows c n (Reset u) carries known adds = all_set Q w.nodes u _ (later P Q w 0 carries before) (same_near P Q w 0 carries before u known _ (goes_request w.version (state w u)))
  ordered_rows c n (Confirm u e) carries confirmable adds =
      all_set Q w.nodes u _ (later P Q w 0 carries before) (carries.confirm u (state w u) e (here P Q w 0 carries before u confirmable.there) confirmable.entered)

  -- every node after a fresh step
  pub rows_next : (settled : World) (s : Step) → Carries (carried_by s) P Q → InRange w → Adds Q s → IsFresh w settled s → AllRows Q (next w s).nodes
  rows_next settled (Order c n x) carries range adds fresh = ordered_rows c n x carries (fresh_order w settled c n x fresh) adds
  rows_next settled (Take p) carries range adds fresh =
      let take = fresh_take w settled p fresh in
      let known = range.ends p.to p.from (sym (lane-mirrored w.links p.from p.to) ∙ ap is_some take.there) in
      all_set Q w.nodes p.to _ (later P Q w (carried p.msg) carries before) (same_near P Q w (carried p.msg) carries before p.to known _ (goes_transition w.version (state w p.to) p.from p.msg))
  rows_next settled (Clear p) carries range adds fresh = later P Q w 0 carries before
