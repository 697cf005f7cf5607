-- Worked runs from the empty world.
use Rattle.std.specs.Prelude.{◌≡◌, ℕ, true, List, [], ◌∷◌, ◌++◌, count_by, map, Result, Ok}
use Rattle.coord_types.specs.declared.messages.Msg.{Msg}
use Rattle.coord_types.specs.declared.messages.Msg.TheVariants as msg
use Rattle.coord_types.specs.declared.outputs.Output.{Output}
use Rattle.coord_types.specs.declared.outputs.Output.TheVariants.{Receipted, Signalled, Sent}
use Rattle.coord_types.specs.declared.refusals.Refusal.{Refusal}
use Rattle.coord_types.specs.declared.steps.Command.{Command}
use Rattle.coord_types.specs.declared.steps.Command.TheVariants.{Add, Join, Drop, Reset}
use Rattle.coord_types.specs.declared.steps.Kind.{Kind}
use Rattle.coord_types.specs.declared.steps.Kind.TheVariants.{Done, Started, Taken, Cleared}
use Rattle.coord_types.specs.declared.steps.Step.{Step}
use Rattle.coord_types.specs.declared.steps.Step.TheVariants.{Order, Take, Clear}
use Rattle.coord_world.specs.declared.verdicts.Verdict.{Verdict}
use Rattle.coord_world.specs.declared.verdicts.Verdict.TheVariants.{Fresh}
use Rattle.coord_world.specs.protocol.Acceptance.{accepts}
use Rattle.coord_world.specs.protocol.Next.{next, fold}
use Rattle.coord_world.specs.protocol.NumberedWorld.{World, no_world, state}
use Rattle.coord_world.specs.protocol.Outputs.{StepOutcome, outs}
use Rattle.coord_world.specs.laws.Waves.{Connected, IsWave, signals_of, started}
use Rattle.coord_world.specs.laws.Overlaps.{BeginsReady, PartReady}
use Rattle.coord_world.specs.laws.Drops.{BeginsApart, drops_in}

-- the n-th order of client 1
abbrev pub order : ℕ → Command → Step
order n x = Order 1 n x

-- the step that takes the packet with this incarnation, number and message from the lane from u to v
abbrev pub take : ℕ → ℕ → ℕ → ℕ → Msg → Step
take u v i n m = Take (record { from = u; to = v; inc = i; number = n; msg = m })

abbrev pub clear : ℕ → ℕ → ℕ → ℕ → Step
clear u v i n = Clear (record { from = u; to = v; inc = i; number = n })

abbrev pub data_out : ℕ → ℕ → ℕ → ℕ → Msg → Output
data_out u v i n m = Sent (record { from = u; to = v; inc = i; number = n; msg = m })

abbrev pub receipt_out : ℕ → ℕ → ℕ → ℕ → Output
receipt_out u v i n = Receipted (record { from = u; to = v; inc = i; number = n })

-- the outcome of step n: its reply and its outputs
abbrev pub gives : ℕ → Kind → List Output → StepOutcome
gives n k os = record { reply = record { step = n; kind = k }; outputs = os }

-- the verdict on each of these steps, if all steps before it are settled
abbrev pub verdicts : World → List Step → List (Result Verdict Refusal)
verdicts w [] = []
verdicts w (s ∷ ss) = accepts w w s ∷ verdicts (next w s) ss

-- in the empty world of this version, each step is fresh, and the steps have these replies and outputs
abbrev pub IsRunIn : ℕ → List Step → List StepOutcome → Type 0
IsRunIn version steps given = (verdicts (no_world version) steps ≡ map (λ r. Ok (Fresh r.reply.kind)) given) × (outs (no_world version) steps ≡ given)

abbrev pub IsRun : List Step → List StepOutcome → Type 0
IsRun = IsRunIn 1

-- two nodes are added and linked; in `one_reset`, one of them is then reset
abbrev pub two_linked : List Step
two_linked = order 1 (Add 1 1) ∷ order 2 (Add 2 1) ∷ order 3 (Join 1 2) ∷ []

abbrev pub one_reset : List Step
one_reset = order 4 (Reset 1) ∷ take 1 2 3 1 (msg.Abort 0) ∷ take 2 1 3 1 msg.Ack ∷ clear 1 2 3 1 ∷ take 1 2 3 2 msg.Ready ∷ []

abbrev pub StoredRun : Type 0
StoredRun =
    IsRun
    (two_linked ++ one_reset)
    (
    gives 1 Done [] ∷ gives 2 Done [] ∷ gives 3 Done []
    ∷ gives 4 Started (data_out 1 2 3 1 (msg.Abort 0) ∷ [])
    ∷ gives 5 Taken (receipt_out 1 2 3 1 ∷ data_out 2 1 3 1 msg.Ack ∷ [])
    ∷ gives 6 Taken (receipt_out 2 1 3 1 ∷ Signalled 1 1 ∷ [])
    ∷ gives 7 Cleared (data_out 1 2 3 2 msg.Ready ∷ [])
    ∷ gives 8 Taken (receipt_out 1 2 3 2 ∷ Signalled 2 1 ∷ []) ∷ []
    )

-- the reset in `one_reset` is a single wave from node 1
abbrev pub StoredWave : Type 0
StoredWave = IsWave (fold (no_world 1) two_linked) one_reset 1

-- both ends of a link start a reset
abbrev pub TwoInitiators : Type 0
TwoInitiators =
    IsRun
    (
    order 1 (Add 1 1) ∷ order 2 (Add 2 1) ∷ order 3 (Join 1 2) ∷ order 4 (Reset 1) ∷ order 5 (Reset 2)
    ∷ take 1 2 3 1 (msg.Abort 0) ∷ take 2 1 3 1 (msg.Abort 0) ∷ clear 1 2 3 1 ∷ clear 2 1 3 1
    ∷ take 1 2 3 2 msg.Ack ∷ take 2 1 3 2 msg.Ack ∷ clear 1 2 3 2 ∷ take 1 2 3 3 msg.Ready ∷ []
    )
    (
    gives 1 Done [] ∷ gives 2 Done [] ∷ gives 3 Done []
    ∷ gives 4 Started (data_out 1 2 3 1 (msg.Abort 0) ∷ [])
    ∷ gives 5 Started (data_out 2 1 3 1 (msg.Abort 0) ∷ [])
    ∷ gives 6 Taken (receipt_out 1 2 3 1 ∷ [])
    ∷ gives 7 Taken (receipt_out 2 1 3 1 ∷ [])
    ∷ gives 8 Cleared (data_out 1 2 3 2 msg.Ack ∷ [])
    ∷ gives 9 Cleared (data_out 2 1 3 2 msg.Ack ∷ [])
    ∷ gives 10 Taken (receipt_out 1 2 3 2 ∷ Signalled 2 1 ∷ [])
    ∷ gives 11 Taken (receipt_out 2 1 3 2 ∷ Signalled 1 1 ∷ [])
    ∷ gives 12 Cleared (data_out 1 2 3 3 msg.Ready ∷ [])
    ∷ gives 13 Taken (receipt_out 1 2 3 3 ∷ []) ∷ []
    )

-- Steps over two linked nodes, which are Ready before and after them. Resets are started at these nodes, in order, and each of
-- the two nodes is signalled this often
pub record IsOverlap (steps : List Step) (at : List ℕ) (times : ℕ) : Type 0 where
  pub begins : BeginsReady (fold (no_world 1) two_linked) steps (λ _. true)
  pub ends : PartReady (fold (fold (no_world 1) two_linked) steps) (λ _. true)
  pub starts : started (fold (no_world 1) two_linked) steps ≡ at
  pub first : signals_of 1 (outs (fold (no_world 1) two_linked) steps) ≡ times
  pub second : signals_of 2 (outs (fold (no_world 1) two_linked) steps) ≡ times

-- both ends of the link start a reset, and the two waves merge
abbrev pub two_starts : List Step
two_starts =
    order 4 (Reset 1) ∷ order 5 (Reset 2) ∷ take 1 2 3 1 (msg.Abort 0) ∷ take 2 1 3 1 (msg.Abort 0) ∷ clear 1 2 3 1 ∷ clear 2 1 3 1
    ∷ take 1 2 3 2 msg.Ack ∷ take 2 1 3 2 msg.Ack ∷ []

-- one end starts another reset before the other end is Ready again, and the second wave follows the first
abbrev pub start_again : List Step
start_again =
    order 4 (Reset 1) ∷ take 1 2 3 1 (msg.Abort 0) ∷ take 2 1 3 1 msg.Ack ∷ order 5 (Reset 1) ∷ clear 1 2 3 1 ∷ take 1 2 3 2 msg.Ready
    ∷ clear 1 2 3 2 ∷ take 1 2 3 3 (msg.Abort 0) ∷ clear 2 1 3 1 ∷ take 2 1 3 2 msg.Ack ∷ clear 1 2 3 3 ∷ take 1 2 3 4 msg.Ready ∷ []

-- if two resets are started, a node may be signalled once or twice
abbrev pub Overlaps : Type 0
Overlaps = IsOverlap two_starts (1 ∷ 2 ∷ []) 1 × IsOverlap start_again (1 ∷ 1 ∷ []) 2

-- a path of three nodes; in `two_meet`, the first two start resets whose waves meet, and the first node is signalled
abbrev pub path_linked : List Step
path_linked = order 1 (Add 1 1) ∷ order 2 (Add 2 1) ∷ order 3 (Add 3 1) ∷ order 4 (Join 1 2) ∷ order 5 (Join 2 3) ∷ []

abbrev pub two_meet : List Step
two_meet =
    order 6 (Reset 1) ∷ order 7 (Reset 2) ∷ take 2 1 4 1 (msg.Abort 0) ∷ take 1 2 4 1 (msg.Abort 0) ∷ clear 1 2 4 1 ∷ take 1 2 4 2 msg.Ack
    ∷ clear 2 1 4 1 ∷ take 2 1 4 2 msg.Ack ∷ []

-- after `two_meet`, the last node starts a reset too, and its wave meets the wave of the second node
abbrev pub third_meets : List Step
third_meets =
    order 8 (Reset 3) ∷ take 2 3 5 1 (msg.Abort 0) ∷ take 3 2 5 1 (msg.Abort 0) ∷ clear 2 3 5 1 ∷ take 2 3 5 2 msg.Ack ∷ clear 3 2 5 1
    ∷ take 3 2 5 2 msg.Ack ∷ []

-- an example in which a node is connected with the node of a started reset, but is not signalled after that start
pub record NotAllAfterEach : Type 0 where
  pub begins : BeginsReady (fold (no_world 1) path_linked) (two_meet ++ third_meets) (λ _. true)
  pub ends : PartReady (fold (fold (no_world 1) path_linked) (two_meet ++ third_meets)) (λ _. true)
  pub last : started (fold (fold (no_world 1) path_linked) two_meet) third_meets ≡ 3 ∷ []
  pub connected : Connected (fold (no_world 1) path_linked) 3 1
  pub none_after : signals_of 1 (outs (fold (fold (no_world 1) path_linked) two_meet) third_meets) ≡ 0

-- three nodes, each linked with both others
abbrev pub triangle_linked : List Step
triangle_linked = order 1 (Add 1 1) ∷ order 2 (Add 2 1) ∷ order 3 (Add 3 1) ∷ order 4 (Join 1 2) ∷ order 5 (Join 1 3) ∷ order 6 (Join 2 3) ∷ []

-- the first node starts a reset, and is signalled; in `passed_on` it starts another. The second node passes both waves on to the
-- third
abbrev pub starts_twice : List Step
starts_twice =
    order 7 (Reset 1) ∷ take 1 2 4 1 (msg.Abort 0) ∷ take 2 3 6 1 (msg.Abort 0) ∷ take 1 3 5 1 (msg.Abort 0)
    ∷ take 3 1 5 1 (msg.Abort 0) ∷ clear 1 3 5 1 ∷ take 1 3 5 2 msg.Ack ∷ take 3 2 6 1 msg.Ack ∷ take 2 1 4 1 msg.Ack
    ∷ clear 3 1 5 1 ∷ take 3 1 5 2 msg.Ack ∷ []

abbrev pub passed_on : List Step
passed_on =
    order 8 (Reset 1) ∷ clear 1 2 4 1 ∷ take 1 2 4 2 msg.Ready ∷ clear 1 2 4 2 ∷ take 1 2 4 3 (msg.Abort 0)
    ∷ clear 1 3 5 2 ∷ take 1 3 5 3 msg.Ready ∷ clear 1 3 5 3 ∷ take 1 3 5 4 (msg.Abort 0) ∷ clear 2 3 6 1
    ∷ take 2 3 6 2 msg.Ready ∷ clear 2 3 6 2 ∷ take 2 3 6 3 (msg.Abort 0) ∷ clear 3 1 5 2 ∷ take 3 1 5 3 msg.Ack
    ∷ clear 3 1 5 3 ∷ take 3 1 5 4 msg.Ready ∷ []

-- after `passed_on`, the link of the first two nodes is dropped: the first node is signalled again, and the wave of the
-- second node reaches it through the third
abbrev pub comes_back : List Step
comes_back =
    order 9 (Drop 1 2) ∷ clear 3 1 5 4 ∷ take 3 1 5 5 (msg.Abort 0) ∷ clear 1 3 5 4 ∷ take 1 3 5 5 msg.Ready
    ∷ clear 1 3 5 5 ∷ take 1 3 5 6 msg.Ack ∷ clear 3 2 6 1 ∷ take 3 2 6 2 msg.Ack ∷ clear 2 3 6 3 ∷ take 2 3 6 4 msg.Ready
    ∷ clear 3 1 5 5 ∷ take 3 1 5 6 msg.Ready ∷ []

-- an example in which a node is signalled as often as resets were started and links dropped, so more often than resets were
-- started
pub record DropsCount : Type 0 where
  pub begins : BeginsApart (fold (no_world 1) triangle_linked) (starts_twice ++ (passed_on ++ comes_back)) (λ _. true)
  pub ends : PartReady (fold (fold (no_world 1) triangle_linked) (starts_twice ++ (passed_on ++ comes_back))) (λ _. true)
  pub starts : started (fold (no_world 1) triangle_linked) (starts_twice ++ (passed_on ++ comes_back)) ≡ 1 ∷ 1 ∷ []
  pub drops : count_by (drops_in (λ _. true)) (starts_twice ++ (passed_on ++ comes_back)) ≡ 1
  pub first : signals_of 1 (outs (fold (no_world 1) triangle_linked) (starts_twice ++ (passed_on ++ comes_back))) ≡ 3

-- the first link of a path of three nodes is dropped while the wave spreads
abbrev pub DropInAbort : Type 0
DropInAbort =
    IsRun
    (
    order 1 (Add 1 1) ∷ order 2 (Add 2 1) ∷ order 3 (Add 3 1) ∷ order 4 (Join 1 2) ∷ order 5 (Join 2 3) ∷ order 6 (Reset 1)
    ∷ take 1 2 4 1 (msg.Abort 0) ∷ order 7 (Drop 1 2)
    ∷ take 2 3 5 1 (msg.Abort 0) ∷ take 3 2 5 1 msg.Ack ∷ clear 2 3 5 1 ∷ take 2 3 5 2 msg.Ready ∷ []
    )
    (
    gives 1 Done [] ∷ gives 2 Done [] ∷ gives 3 Done [] ∷ gives 4 Done [] ∷ gives 5 Done []
    ∷ gives 6 Started (data_out 1 2 4 1 (msg.Abort 0) ∷ [])
    ∷ gives 7 Taken (receipt_out 1 2 4 1 ∷ data_out 2 3 5 1 (msg.Abort 0) ∷ [])
    ∷ gives 8 Done (Signalled 1 1 ∷ [])
    ∷ gives 9 Taken (receipt_out 2 3 5 1 ∷ data_out 3 2 5 1 msg.Ack ∷ [])
    ∷ gives 10 Taken (receipt_out 3 2 5 1 ∷ Signalled 2 1 ∷ [])
    ∷ gives 11 Cleared (data_out 2 3 5 2 msg.Ready ∷ [])
    ∷ gives 12 Taken (receipt_out 2 3 5 2 ∷ Signalled 3 1 ∷ []) ∷ []
    )

-- a link is dropped after the acknowledgement has returned over it
abbrev pub DropInConverge : Type 0
DropInConverge =
    IsRun
    (
    order 1 (Add 1 1) ∷ order 2 (Add 2 1) ∷ order 3 (Add 3 1) ∷ order 4 (Join 1 2) ∷ order 5 (Join 2 3) ∷ order 6 (Reset 1)
    ∷ take 1 2 4 1 (msg.Abort 0) ∷ take 2 3 5 1 (msg.Abort 0) ∷ take 3 2 5 1 msg.Ack ∷ order 7 (Drop 1 2) ∷ []
    )
    (
    gives 1 Done [] ∷ gives 2 Done [] ∷ gives 3 Done [] ∷ gives 4 Done [] ∷ gives 5 Done []
    ∷ gives 6 Started (data_out 1 2 4 1 (msg.Abort 0) ∷ [])
    ∷ gives 7 Taken (receipt_out 1 2 4 1 ∷ data_out 2 3 5 1 (msg.Abort 0) ∷ [])
    ∷ gives 8 Taken (receipt_out 2 3 5 1 ∷ data_out 3 2 5 1 msg.Ack ∷ [])
    ∷ gives 9 Taken (receipt_out 3 2 5 1 ∷ data_out 2 1 4 1 msg.Ack ∷ [])
    ∷ gives 10 Done (Signalled 1 1 ∷ Signalled 2 1 ∷ []) ∷ []
    )

-- the same path in version 2: the wave spreads with distances, and the node that loses its parent keeps its distance
abbrev pub wave_with_distances : List Step
wave_with_distances =
    order 1 (Add 1 1) ∷ order 2 (Add 2 1) ∷ order 3 (Add 3 1) ∷ order 4 (Join 1 2) ∷ order 5 (Join 2 3) ∷ order 6 (Reset 1)
    ∷ take 1 2 4 1 (msg.Abort 1) ∷ order 7 (Drop 1 2) ∷ take 2 3 5 1 (msg.Abort 2) ∷ []

pub record Distances : Type 0 where
  pub taken :
      IsRunIn
      2
      wave_with_distances
      (
      gives 1 Done [] ∷ gives 2 Done [] ∷ gives 3 Done [] ∷ gives 4 Done [] ∷ gives 5 Done []
      ∷ gives 6 Started (data_out 1 2 4 1 (msg.Abort 1) ∷ [])
      ∷ gives 7 Taken (receipt_out 1 2 4 1 ∷ data_out 2 3 5 1 (msg.Abort 2) ∷ [])
      ∷ gives 8 Done (Signalled 1 1 ∷ [])
      ∷ gives 9 Taken (receipt_out 2 3 5 1 ∷ data_out 3 2 5 1 msg.Ack ∷ []) ∷ []
      )
  pub orphan : (state (fold (no_world 2) wave_with_distances) 2).distance ≡ 1
  pub child : (state (fold (no_world 2) wave_with_distances) 3).distance ≡ 2
  pub signalled : (state (fold (no_world 2) wave_with_distances) 1).distance ≡ 0

-- both ends of a path of three nodes start a reset in version 2; the node between them takes only the first wave, and
-- all three nodes are signalled
abbrev pub TwoInitiatorsWithDistances : Type 0
TwoInitiatorsWithDistances =
    IsRunIn
    2
    (
    order 1 (Add 1 1) ∷ order 2 (Add 2 1) ∷ order 3 (Add 3 1) ∷ order 4 (Join 1 2) ∷ order 5 (Join 2 3) ∷ order 6 (Reset 1) ∷ order 7 (Reset 3)
    ∷ take 1 2 4 1 (msg.Abort 1) ∷ take 3 2 5 1 (msg.Abort 1) ∷ take 2 3 5 1 (msg.Abort 2) ∷ clear 3 2 5 1 ∷ clear 2 3 5 1
    ∷ take 3 2 5 2 msg.Ack ∷ take 2 3 5 2 msg.Ack ∷ take 2 1 4 1 msg.Ack ∷ clear 1 2 4 1 ∷ take 1 2 4 2 msg.Ready ∷ []
    )
    (
    gives 1 Done [] ∷ gives 2 Done [] ∷ gives 3 Done [] ∷ gives 4 Done [] ∷ gives 5 Done []
    ∷ gives 6 Started (data_out 1 2 4 1 (msg.Abort 1) ∷ [])
    ∷ gives 7 Started (data_out 3 2 5 1 (msg.Abort 1) ∷ [])
    ∷ gives 8 Taken (receipt_out 1 2 4 1 ∷ data_out 2 3 5 1 (msg.Abort 2) ∷ [])
    ∷ gives 9 Taken (receipt_out 3 2 5 1 ∷ [])
    ∷ gives 10 Taken (receipt_out 2 3 5 1 ∷ [])
    ∷ gives 11 Cleared (data_out 3 2 5 2 msg.Ack ∷ [])
    ∷ gives 12 Cleared (data_out 2 3 5 2 msg.Ack ∷ [])
    ∷ gives 13 Taken (receipt_out 3 2 5 2 ∷ data_out 2 1 4 1 msg.Ack ∷ [])
    ∷ gives 14 Taken (receipt_out 2 3 5 2 ∷ Signalled 3 1 ∷ [])
    ∷ gives 15 Taken (receipt_out 2 1 4 1 ∷ Signalled 1 1 ∷ [])
    ∷ gives 16 Cleared (data_out 1 2 4 2 msg.Ready ∷ [])
    ∷ gives 17 Taken (receipt_out 1 2 4 2 ∷ Signalled 2 1 ∷ []) ∷ []
    )
