-- Which values, steps and batches their formats can spell: those whose numbers are in range.
use Rattle.std.proofs.Common.{ℕ, zero, suc, ◌<◌, ◌≤◌, ◌^◌, refl, arith, ◌-◌, List, [], ◌∷◌, ◌++◌, sym, subst}
use Rattle.std.proofs.lemmas.Bool.Decides.{nat_tests}
use Rattle.std.specs.List.{AllByRecursion}
use Rattle.coord_types.specs.Facade.{IsNode, carried}
use Rattle.coord_types.specs.declared.messages.Msg.{Msg}
use Rattle.coord_batch.specs.Fields.{node, group, client, distance, unless, message, message_case, from_one, at_most, from_one_to, how_many}
use Rattle.coord_types.specs.declared.packets.DataPacket.{DataPacket}
use Rattle.coord_types.specs.declared.packets.ReceiptPacket.{ReceiptPacket}
use Rattle.coord_types.specs.declared.steps.Command.{Command}
use Rattle.coord_types.specs.declared.steps.Command.TheVariants.{Add, Remove, Join, Drop, Reset, Confirm}
use Rattle.coord_types.specs.declared.steps.Step.{Step}
use Rattle.coord_types.specs.declared.steps.Step.TheVariants.{Order, Take, Clear}
use Rattle.coord_types.specs.StepRanges.{CommandInRange}
use Rattle.coord_batch.specs.Batches.{IsBatch, StepFits}
use Rattle.coord_batch.specs.Format.{FitAfter}
use Rattle.coord_batch.specs.Steps.{command, command_case, data_packet, receipt_packet, order, step, step_case, how_many_steps, steps, batch}
use Rattle.coord_types.specs.declared.messages.Msg.TheVariants as msg

-- ---- which values the fields can spell: those in their ranges

pub node_in_range : (n : ℕ) → node.Fits n → IsNode n
unfolding node
node_in_range n fits = (grind (arith, nat_tests, fits.1), grind (arith, nat_tests, fits.1))

pub node_fits : (n : ℕ) → IsNode n → node.Fits n
unfolding node
node_fits n range = (omega (arith, range.1), grind (arith, nat_tests, range.0, range.1))

pub group_in_range : (n : ℕ) → group.Fits n → (1 ≤ n) × (n ≤ 16)
unfolding group
group_in_range n fits = (grind (arith, nat_tests, fits.1), grind (arith, nat_tests, fits.1))

pub group_fits : (n : ℕ) → 1 ≤ n → n ≤ 16 → group.Fits n
unfolding group
group_fits n least most = (omega (arith, most), grind (arith, nat_tests, least, most))

pub client_in_range : (n : ℕ) → client.Fits n → (1 ≤ n) × (n ≤ 16)
unfolding client
client_in_range n fits = (grind (arith, nat_tests, fits.1), grind (arith, nat_tests, fits.1))

pub client_fits : (n : ℕ) → 1 ≤ n → n ≤ 16 → client.Fits n
unfolding client
client_fits n least most = (omega (arith, most), grind (arith, nat_tests, least, most))

pub from_one_in_range : (n : ℕ) → from_one.Fits n → (1 ≤ n) × (n < 2 ^ 64)
unfolding from_one
from_one_in_range n fits = (grind (arith, nat_tests, fits.1), fits.0)

pub from_one_fits : (n : ℕ) → 1 ≤ n → n < 2 ^ 64 → from_one.Fits n
unfolding from_one
from_one_fits n least most = (most, grind (arith, nat_tests, least))

pub message_fits : (version most : ℕ) (m : Msg) → (distance version most).Fits (carried m) → (message version most).Fits m
unfolding message message_case
message_fits version most (msg.Abort k) fits = ((0, msg.Abort k), ((omega arith, refl), (k, fits, refl)), refl)
message_fits version most msg.Ack fits = ((1, msg.Ack), ((omega arith, refl), (0, refl, refl)), refl)
message_fits version most msg.Ready fits = ((2, msg.Ready), ((omega arith, refl), (0, refl, refl)), refl)

-- without a distance it has one in any version
no_distance_fits : (version most : ℕ) → most < 2 ^ 64 → (distance version most).Fits 0
unfolding distance unless at_most
no_distance_fits version most small = grind arith

message_case_in_range : (version most t : ℕ) (m : Msg) → most < 2 ^ 64 → (message_case version most t).Fits m → (distance version most).Fits (carried m)
unfolding message_case
message_case_in_range version most t m h1 h2 = grind (arith, no_distance_fits)

pub message_in_range : (version most : ℕ) (m : Msg) → most < 2 ^ 64 → (message version most).Fits m → (distance version most).Fits (carried m)
unfolding message
message_in_range version most m small fits = rw fits.2 (message_case_in_range version most fits.0.0 fits.0.1 small fits.1.1)

pub at_most_in_range : (most n : ℕ) → (at_most most).Fits n → n ≤ most
unfolding at_most
at_most_in_range most n fits = grind (arith, nat_tests, fits.1)

pub at_most_fits : (most n : ℕ) → most < 2 ^ 64 → n ≤ most → (at_most most).Fits n
unfolding at_most
at_most_fits most n small few = (omega (arith, small, few), grind (arith, nat_tests, few))

pub from_one_to_in_range : (most n : ℕ) → (from_one_to most).Fits n → (1 ≤ n) × (n ≤ most)
unfolding from_one_to
from_one_to_in_range most n fits = (grind (arith, nat_tests, fits.1), grind (arith, nat_tests, fits.1))

pub from_one_to_fits : (most n : ℕ) → most < 2 ^ 64 → 1 ≤ n → n ≤ most → (from_one_to most).Fits n
unfolding from_one_to
from_one_to_fits most n small least few = (omega (arith, small, few), grind (arith, nat_tests, least, few))

pub how_many_in_range : (most n : ℕ) → (how_many most).Fits n → n ≤ most
unfolding how_many
how_many_in_range most n fits = grind (arith, nat_tests, fits.1)

pub how_many_fits : (most n : ℕ) → most < 256 → n ≤ most → (how_many most).Fits n
unfolding how_many
how_many_fits most n small few = (omega (arith, small, few), grind (arith, nat_tests, few))

-- ---- which commands their formats can spell

case_in_range : (t : ℕ) (x : Command) → (command_case t).Fits x → CommandInRange x
unfolding command_case
case_in_range t x h1 = grind (arith, node_in_range, group_in_range)

pub command_in_range : (x : Command) → command.Fits x → CommandInRange x
unfolding command
command_in_range x fits = subst CommandInRange (sym fits.2) (case_in_range fits.0.0 fits.0.1 fits.1.1)

pub command_fits : (x : Command) → CommandInRange x → command.Fits x
unfolding command command_case
command_fits (Add u g) range = ((0, Add u g), ((omega arith, refl), ((u, g), (node_fits u range.0, group_fits g range.1 range.2), refl)), refl)
command_fits (Remove u) range = ((1, Remove u), ((omega arith, refl), (u, node_fits u range, refl)), refl)
command_fits (Join a b) range = ((2, Join a b), ((omega arith, refl), ((a, b), (node_fits a range.0, node_fits b range.1), refl)), refl)
command_fits (Drop a b) range = ((3, Drop a b), ((omega arith, refl), ((a, b), (node_fits a range.0, node_fits b range.1), refl)), refl)
command_fits (Reset u) range = ((4, Reset u), ((omega arith, refl), (u, node_fits u range, refl)), refl)
command_fits (Confirm u e) range = ((5, Confirm u e), ((omega arith, refl), ((u, e), (node_fits u range.0, range.1), refl)), refl)

-- ---- which steps

data_in_range : (version : ℕ) (p : DataPacket) → (data_packet version).Fits p → StepFits version (Take p)
unfolding data_packet
data_in_range version p fits =
    rw fits.2 (node_in_range fits.0.0 fits.1.0, node_in_range fits.0.1.0 fits.1.1.0, fits.1.1.1.0, fits.1.1.1.1.0, message_in_range version (2 ^ 64 - 1) fits.0.1.1.1.1 (omega arith) fits.1.1.1.1.1)

data_fits : (version : ℕ) (p : DataPacket) → StepFits version (Take p) → (data_packet version).Fits p
unfolding data_packet
data_fits version p range = ((p.from, (p.to, (p.inc, (p.number, p.msg)))), (node_fits p.from range.0, (node_fits p.to range.1, (range.2, (range.3, message_fits version (2 ^ 64 - 1) p.msg range.4)))), refl)

receipt_in_range : (version : ℕ) (r : ReceiptPacket) → receipt_packet.Fits r → StepFits version (Clear r)
unfolding receipt_packet
receipt_in_range version r fits = rw fits.2 (node_in_range fits.0.0 fits.1.0, node_in_range fits.0.1.0 fits.1.1.0, fits.1.1.1.0, fits.1.1.1.1)

receipt_fits : (version : ℕ) (r : ReceiptPacket) → StepFits version (Clear r) → receipt_packet.Fits r
unfolding receipt_packet
receipt_fits version r range = ((r.from, (r.to, (r.inc, r.number))), (node_fits r.from range.0, (node_fits r.to range.1, (range.2, range.3))), refl)

form_in_range : (version t : ℕ) (s : Step) → (step_case version t).Fits s → StepFits version s
unfolding step_case order
form_in_range version zero s fits = subst (StepFits version) (sym fits.2) (client_in_range fits.0.0 fits.1.0, from_one_in_range fits.0.1.0 fits.1.1.0, command_in_range fits.0.1.1 fits.1.1.1)
form_in_range version (suc zero) s fits = subst (StepFits version) (sym fits.2) (data_in_range version fits.0 fits.1)
form_in_range version (suc (suc n)) s fits = subst (StepFits version) (sym fits.2) (receipt_in_range version fits.0 fits.1)

step_in_range : (version : ℕ) (s : Step) → (step version).Fits s → StepFits version s
unfolding step
step_in_range version s fits = subst (StepFits version) (sym fits.2) (form_in_range version fits.0.0 fits.0.1 fits.1.1)

pub step_fits : (version : ℕ) (s : Step) → StepFits version s → (step version).Fits s
unfolding step step_case order
step_fits version (Order c n x) range = ((0, Order c n x), ((omega arith, refl), ((c, (n, x)), (client_fits c range.0.0 range.0.1, (from_one_fits n range.1.0 range.1.1, command_fits x range.2)), refl)), refl)
step_fits version (Take p) range = ((1, Take p), ((omega arith, refl), (p, data_fits version p range, refl)), refl)
step_fits version (Clear r) range = ((2, Clear r), ((omega arith, refl), (r, receipt_fits version r range, refl)), refl)

-- ---- which batches

each_in_range : (version : ℕ) (front taken : List Step) → FitAfter (λ _. step version) front taken → AllByRecursion (StepFits version) taken
unfolding FitAfter
each_in_range version front [] fits = tt
each_in_range version front (s ∷ ss) fits = (step_in_range version s fits.0, each_in_range version (front ++ s ∷ []) ss fits.1)

each_fits : (version : ℕ) (front taken : List Step) → AllByRecursion (StepFits version) taken → FitAfter (λ _. step version) front taken
unfolding FitAfter
each_fits version front [] range = tt
each_fits version front (s ∷ ss) range = (step_fits version s range.0, each_fits version (front ++ s ∷ []) ss range.1)

pub batch_in_range : (version first : ℕ) (taken : List Step) → (batch version).Fits (first, taken) → IsBatch version first taken
unfolding batch steps how_many_steps
batch_in_range version first taken fits = grind (arith, from_one_to_in_range, each_in_range)

pub batch_fits : (version first : ℕ) (taken : List Step) → IsBatch version first taken → (batch version).Fits (first, taken)
unfolding batch steps how_many_steps
batch_fits version first taken range = (from_one_to_fits (2 ^ 40) first (omega arith) range.least range.greatest, ((omega (arith, range.most), grind (arith, nat_tests, range.some, range.most)), each_fits version [] taken range.each))
