-- A wave: which nodes are connected, where resets start, and which nodes are signalled.
use Rattle.std.specs.Prelude.{◌≡◌, ◌⊎◌, ℕ, ◌==◌, Bool, true, false, List, [], ◌∷◌, ◌++◌, All, sum_by, count_by}
use Rattle.coord_types.specs.declared.messages.Mode.TheVariants.{Ready}
use Rattle.coord_types.specs.declared.outputs.Output.{Output}
use Rattle.coord_types.specs.declared.outputs.Output.TheVariants.{Receipted, Signalled, Sent}
use Rattle.coord_types.specs.declared.steps.Command.TheVariants.{Add, Remove, Join, Drop, Reset, Confirm}
use Rattle.coord_types.specs.declared.steps.Kind.{Kind}
use Rattle.coord_types.specs.declared.steps.Kind.TheVariants.{Started, Finished}
use Rattle.coord_types.specs.declared.steps.Step.{Step}
use Rattle.coord_types.specs.declared.steps.Step.TheVariants.{Order, Take, Clear}
use Rattle.coord_world.specs.protocol.Legal.{Legal}
use Rattle.coord_world.specs.protocol.Next.{next, fold, reply}
use Rattle.coord_world.specs.protocol.NumberedWorld.{World, state, is_linked}
use Rattle.coord_world.specs.protocol.Outputs.{StepOutcome, outs}
use Rattle.coord_world.specs.protocol.Ranges.{InRange}
use Rattle.coord_world.specs.protocol.InTurn.{InTurn}

-- a path from u to v: each of its nodes is linked with the one before it
abbrev pub IsPath : World → ℕ → List ℕ → ℕ → Type 0
IsPath w u [] v = u ≡ v
IsPath w u (x ∷ path) v = (is_linked w u x ≡ true) × IsPath w x path v

-- a path of links connects u with v
abbrev pub Connected : World → ℕ → ℕ → Type 0
Connected w u v = (path : List ℕ) × IsPath w u path v

abbrev pub AllReady : World → Type 0
AllReady w = (v : ℕ) → (state w v).mode ≡ Ready

-- whether a step adds or removes a node or a link
abbrev pub changes_topology : Step → Bool
changes_topology (Order c n (Add u g)) = true
changes_topology (Order c n (Remove u)) = true
changes_topology (Order c n (Join a b)) = true
changes_topology (Order c n (Drop a b)) = true
changes_topology (Order c n (Reset u)) = false
changes_topology (Order c n (Confirm u e)) = false
changes_topology (Take p) = false
changes_topology (Clear p) = false

-- the node at which a step starts a reset, given the kind of its reply; empty if it starts none
abbrev pub started_by : Kind → Step → List ℕ
started_by Started (Order c n (Reset u)) = u ∷ []
started_by k s = []

-- the nodes at which resets are started by these steps, in order
abbrev pub started : World → List Step → List ℕ
started w [] = []
started w (s ∷ ss) = started_by (reply w s).kind s ++ started (next w s) ss

-- The steps are one wave from u. Every node is Ready before and after them, they do not add or remove nodes or links, and they
-- start exactly one reset, at u
pub record IsWave (w : World) (steps : List Step) (u : ℕ) : Type 0 where
  pub in_range : InRange w
  pub legal : Legal w
  pub in_turn : InTurn w steps
  pub same_topology : All (λ s. changes_topology s ≡ false) steps
  pub ready_before : AllReady w
  pub ready_after : AllReady (fold w steps)
  pub one_start : started w steps ≡ u ∷ []

-- whether an output is a signal of node v
abbrev pub is_signal_of : ℕ → Output → Bool
is_signal_of v (Receipted p) = false
is_signal_of v (Signalled u e) = u == v
is_signal_of v (Sent p) = false

-- the number of signals of node v among the outputs of steps
abbrev pub signals_of : ℕ → List StepOutcome → ℕ
signals_of v given = sum_by (λ r. count_by (is_signal_of v) r.outputs) given

-- if an output is a signal, its node is connected with u, or the step is answered Finished
abbrev pub IsExplained : World → ℕ → Kind → Output → Type 0
IsExplained w u k (Receipted p) = Unit {0}
IsExplained w u k (Signalled v e) = Connected w u v ⊎ (k ≡ Finished)
IsExplained w u k (Sent p) = Unit {0}

-- each node that is connected with u is signalled exactly once, and every other signal comes from a step that is answered
-- Finished
pub record SignalsOnce (w : World) (steps : List Step) (u : ℕ) : Type 0 where
  pub once : (v : ℕ) → Connected w u v → signals_of v (outs w steps) ≡ 1
  pub others : All (λ r. All (IsExplained w u r.reply.kind) r.outputs) (outs w steps)

-- a wave signals each node that it reaches exactly once
abbrev pub OncePerWave : Type 0
OncePerWave = (w : World) (steps : List Step) (u : ℕ) → IsWave w steps u → SignalsOnce w steps u
