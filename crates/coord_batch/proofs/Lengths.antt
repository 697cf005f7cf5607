-- How long spellings are.
use Rattle.std.proofs.Common.{◌≡◌, ℕ, ◌+◌, ◌*◌, ◌≤◌, List, [], ◌∷◌, ◌++◌, length, ap, length-append, arith}
use Rattle.std.specs.Int.{w16, w64, to_be_bytes}
use Rattle.std.specs.List.{AllByRecursion, flat_map}
use Rattle.std.proofs.lemmas.List.Concat.{flat_map-cons}
use Rattle.coord_types.specs.declared.messages.Msg.{Msg}
use Rattle.coord_types.specs.declared.messages.Msg.TheVariants as msg
use Rattle.coord_batch.specs.Facade.{StepFits}
use Rattle.coord_types.specs.declared.steps.Command.{Command}
use Rattle.coord_types.specs.declared.steps.Step.{Step}
use Rattle.coord_batch.specs.Fields.{at_most, node, group, client, distance, unless, message, message_case, from_one}
use Rattle.coord_batch.specs.Steps.{command, command_case, data_packet, order, receipt_packet, step, step_case}

-- items of at most this many bytes each
pub length-flat_map_most : {A : Type 0} (P : A → Type 0) (text : A → List ℕ) (most : ℕ) → ((x : A) → P x → length (text x) ≤ most) → (xs : List A) → AllByRecursion P xs → length (flat_map text xs) ≤ most * length xs
length-flat_map_most P text most each [] all = omega arith
length-flat_map_most P text most each (x ∷ xs) all =
    let rest = length-flat_map_most P text most each xs all.1 in
    rw flat_map-cons (omega (arith, length-append (text x) (flat_map text xs), each x all.0, rest))

-- whether it is an Abort
abbrev pub aborted : Msg → ℕ
aborted (msg.Abort k) = 1
aborted msg.Ack = 0
aborted msg.Ready = 0

pub aborted_le : (m : Msg) → aborted m ≤ 1
aborted_le m = grind arith

-- a distance has eight bytes, and in version 1 none
pub length-distance : (version most n : ℕ) → length ((distance version most).text n) ≤ 8
unfolding distance unless at_most
length-distance version most n = grind arith

-- a message is a byte, and an Abort's distance
pub length-message : (version most : ℕ) (m : Msg) → length ((message version most).text m) ≤ 1 + 8 * aborted m
unfolding message message_case
length-message version most m = grind (arith, length-distance)

-- a Confirm is the longest command: its form, a node and an epoch
pub length-command : (x : Command) → length (command.text x) ≤ 10
unfolding command command_case node group
length-command x = grind arith

-- a client's Confirm and a data packet are the longest steps
length-step : (version : ℕ) (s : Step) → length ((step version).text s) ≤ 28
unfolding step step_case order client from_one data_packet receipt_packet node
length-step version s = grind (arith, length-command, length-message, aborted_le)

-- a spelling of at most 256 steps
pub few_bytes : (version first count : ℕ) (ss : List Step) (out : List ℕ) → length ss ≤ 256 → AllByRecursion (StepFits version) ss → out ≡ (to_be_bytes w64 first ++ to_be_bytes w16 count) ++ flat_map (step version).text ss → length out ≤ 8192
few_bytes version first count ss out few all is =
    let texts = length-flat_map_most (StepFits version) (step version).text 28 (λ s _. length-step version s) ss all in
    omega (arith, few, ap length is, length-append (to_be_bytes w64 first ++ to_be_bytes w16 count) (flat_map (step version).text ss), texts)
