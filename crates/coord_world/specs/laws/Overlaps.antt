-- Overlapping resets: any number of resets are started in one list of steps, and their waves merge where they meet.
use Rattle.std.specs.Prelude.{◌≡◌, ℕ, ◌+◌, ◌<◌, ◌≤◌, ◌==◌, Bool, true, false, List, [], ◌∷◌, ◌++◌, All, count_by}
use Rattle.coord_types.specs.declared.messages.Mode.TheVariants.{Ready}
use Rattle.coord_types.specs.declared.steps.Command.TheVariants.{Reset}
use Rattle.coord_types.specs.declared.steps.Kind.{Kind}
use Rattle.coord_types.specs.declared.steps.Kind.TheVariants.{Finished}
use Rattle.coord_types.specs.declared.steps.Step.{Step}
use Rattle.coord_types.specs.declared.steps.Step.TheVariants.{Order}
use Rattle.coord_world.specs.protocol.InTurn.{InTurn}
use Rattle.coord_world.specs.protocol.Legal.{Legal}
use Rattle.coord_world.specs.protocol.Next.{fold, next, reply}
use Rattle.coord_world.specs.protocol.NumberedWorld.{World, is_linked, state}
use Rattle.coord_world.specs.protocol.Outputs.{outs}
use Rattle.coord_world.specs.protocol.Ranges.{InRange}
use Rattle.coord_world.specs.laws.Waves.{Connected, changes_topology, signals_of, started}

-- If a reset of node u is accepted, whatever the reply, and u is Ready at the end of the steps, then that step or a later one
-- signals u. The steps may add and remove nodes and links
abbrev pub AskedIsSignalled : Type 0
AskedIsSignalled = (w : World) (steps before rest : List Step) (c n u : ℕ) → InRange w → Legal w → InTurn w steps →
    steps ≡ before ++ Order c n (Reset u) ∷ rest → (state (fold w steps) u).mode ≡ Ready → 1 ≤ signals_of u (outs (fold w before) (Order c n (Reset u) ∷ rest))

-- no link joins a node of the part with a node outside it
abbrev pub IsPart : World → (ℕ → Bool) → Type 0
IsPart w part = (a b : ℕ) → is_linked w a b ≡ true → part a ≡ part b

-- every node of the part is Ready
abbrev pub PartReady : World → (ℕ → Bool) → Type 0
PartReady w part = (v : ℕ) → part v ≡ true → (state w v).mode ≡ Ready

-- steps in turn that do not add or remove nodes or links; every node of the part is Ready before them
pub record BeginsReady (w : World) (steps : List Step) (part : ℕ → Bool) : Type 0 where
  pub in_range : InRange w
  pub legal : Legal w
  pub in_turn : InTurn w steps
  pub same_topology : All (λ s. changes_topology s ≡ false) steps
  pub is_part : IsPart w part
  pub ready_before : PartReady w part

-- if every node of the part is Ready at the end, each node that is connected with the node of a started reset is
-- signalled at least once
abbrev pub OnceOrMore : Type 0
OnceOrMore = (w : World) (steps : List Step) (part : ℕ → Bool) → BeginsReady w steps part → PartReady (fold w steps) part →
    All (λ u. part u ≡ true → (v : ℕ) → Connected w u v → 1 ≤ signals_of v (outs w steps)) (started w steps)

-- a node of the part that has a link is signalled at most as often as resets are started in the part, even if not every node is
-- Ready at the end
abbrev pub NoMoreThanStarted : Type 0
NoMoreThanStarted = (w : World) (steps : List Step) (part : ℕ → Bool) → BeginsReady w steps part →
    (v x : ℕ) → part v ≡ true → is_linked w v x ≡ true → signals_of v (outs w steps) ≤ count_by part (started w steps)

-- if every node of the part is Ready at the end, and exactly one reset was started in the part, each node that is connected with
-- the initiator is signalled exactly once
abbrev pub OnceIfOneStarted : Type 0
OnceIfOneStarted = (w : World) (steps : List Step) (part : ℕ → Bool) → BeginsReady w steps part → PartReady (fold w steps) part → count_by part (started w steps) ≡ 1 →
    All (λ u. part u ≡ true → (v : ℕ) → Connected w u v → signals_of v (outs w steps) ≡ 1) (started w steps)

-- the node of a reset whose reply is of the kind Finished
abbrev pub finished_by : Kind → Step → List ℕ
finished_by Finished (Order c n (Reset u)) = u ∷ []
finished_by k s = []

-- the nodes whose resets are answered Finished, in order
abbrev pub finished_at : World → List Step → List ℕ
finished_at w [] = []
finished_at w (s ∷ ss) = finished_by (reply w s).kind s ++ finished_at (next w s) ss

-- a node of the part that has no link is signalled exactly as often as its resets are answered Finished
abbrev pub AloneAsFinished : Type 0
AloneAsFinished = (w : World) (steps : List Step) (part : ℕ → Bool) → BeginsReady w steps part →
    (v : ℕ) → part v ≡ true → ((x : ℕ) → is_linked w v x ≡ false) → signals_of v (outs w steps) ≡ count_by (λ u. u == v) (finished_at w steps)

-- if every node of the part is Ready at the end, then of the nodes that are connected with each other, either all or none are
-- signalled
abbrev pub AllOrNone : Type 0
AllOrNone = (w : World) (steps : List Step) (part : ℕ → Bool) → BeginsReady w steps part → PartReady (fold w steps) part →
    (u v : ℕ) → part u ≡ true → Connected w u v → 1 ≤ signals_of u (outs w steps) → 1 ≤ signals_of v (outs w steps)

-- if every node of the part is Ready at the end, and a reset of one of its nodes was accepted, whatever the reply, then each node
-- that is connected with this node is signalled at least once
abbrev pub AskedReachesAll : Type 0
AskedReachesAll = (w : World) (steps before rest : List Step) (part : ℕ → Bool) (c n u : ℕ) → BeginsReady w steps part → PartReady (fold w steps) part →
    steps ≡ before ++ Order c n (Reset u) ∷ rest → part u ≡ true → (v : ℕ) → Connected w u v → 1 ≤ signals_of v (outs w steps)

-- while no node or link is added or removed, a node's epoch rises by one with each of its signals
abbrev pub EpochsCountSignals : Type 0
EpochsCountSignals = (w : World) (steps : List Step) → InRange w → Legal w → InTurn w steps → All (λ s. changes_topology s ≡ false) steps →
    (v : ℕ) → (state (fold w steps) v).epoch ≡ (state w v).epoch + signals_of v (outs w steps)

-- if every node of the part is Ready at the end, then of the nodes that are connected with each other, either all or none enter a
-- new epoch
abbrev pub EpochsRiseTogether : Type 0
EpochsRiseTogether = (w : World) (steps : List Step) (part : ℕ → Bool) → BeginsReady w steps part → PartReady (fold w steps) part →
    (u v : ℕ) → part u ≡ true → Connected w u v → (state w u).epoch < (state (fold w steps) u).epoch → (state w v).epoch < (state (fold w steps) v).epoch
