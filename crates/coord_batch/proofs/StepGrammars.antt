-- The formats of steps and batches are grammars.
use Rattle.std.proofs.Common.{◌≡◌, ℕ, zero, suc, ◌-◌, ◌<◌, ◌^◌, Bool, true, false, refl, sym, ap, arith, eqb, leb, ◌&&◌}
use Rattle.coord_types.specs.Messages.{carried}
use Rattle.coord_types.specs.declared.messages.Msg.{Msg}
use Rattle.coord_types.specs.declared.messages.Msg.TheVariants as msg
use Rattle.coord_types.specs.declared.steps.Command.{Command}
use Rattle.coord_types.specs.declared.steps.Command.TheVariants.{Add, Join, Drop, Remove, Reset, Confirm}
use Rattle.coord_types.specs.declared.steps.Step.{Step}
use Rattle.coord_types.specs.declared.steps.Step.TheVariants.{Order, Take, Clear}
use Rattle.coord_batch.specs.Format.{Format, byte, u16, u64, nothing, ◌&◌}
use Rattle.coord_batch.specs.Fields.{node, group, client, distance, unless, message, message_case, message_tag, from_one, at_most, from_one_to, how_many}
use Rattle.coord_batch.specs.Steps.{both_of, first_of, command, command_case, command_tag, data_packet, receipt_packet, order, order_of, taken_of, cleared_of, step, step_case, step_tag, how_many_steps, steps, batch}
use Rattle.coord_batch.proofs.Grammars.{IsGrammar, byte_grammar, nothing_grammar, u16_grammar, u64_grammar, such_grammar, followed_grammar, made_grammar, cases_grammar, counted_grammar}

pub node_grammar : IsGrammar node
unfolding node
node_grammar = such_grammar (λ n. leb 1 n && leb n 64) byte byte_grammar

pub group_grammar : IsGrammar group
unfolding group
group_grammar = such_grammar (λ n. leb 1 n && leb n 16) byte byte_grammar

pub client_grammar : IsGrammar client
unfolding client
client_grammar = such_grammar (λ n. leb 1 n && leb n 16) byte byte_grammar

pub from_one_grammar : IsGrammar from_one
unfolding from_one
from_one_grammar = such_grammar (leb 1) u64 u64_grammar

pub at_most_grammar : (most : ℕ) → IsGrammar (at_most most)
unfolding at_most
at_most_grammar most = such_grammar (λ n. leb n most) u64 u64_grammar

pub distance_grammar : (version most : ℕ) → IsGrammar (distance version most)
unfolding distance unless
distance_grammar version most = by_version (eqb version 1)
  where
    by_version : (b : Bool) → IsGrammar (unless b most)
    by_version true = nothing_grammar
    by_version false = at_most_grammar most

message_case_grammar : (version most t : ℕ) → IsGrammar (message_case version most t)
unfolding message_case
message_case_grammar version most zero = made_grammar msg.Abort carried (distance version most) (distance_grammar version most) (λ n fits. refl)
message_case_grammar version most (suc zero) = made_grammar (λ n. msg.Ack) carried nothing nothing_grammar (λ n fits. sym fits)
message_case_grammar version most (suc (suc n)) = made_grammar (λ n. msg.Ready) carried nothing nothing_grammar (λ n fits. sym fits)

message_case_distinguished : (version most t : ℕ) (m : Msg) → t < 3 → (message_case version most t).Fits m → message_tag m ≡ t
unfolding message_case
message_case_distinguished version most zero m below fits = ap message_tag fits.2
message_case_distinguished version most (suc zero) m below fits = ap message_tag fits.2
message_case_distinguished version most (suc (suc n)) m below fits = let is = ap message_tag fits.2 in omega (arith, is)

pub message_grammar : (version most : ℕ) → IsGrammar (message version most)
unfolding message
message_grammar version most = cases_grammar 3 message_tag (message_case version most) (message_case_grammar version most) (message_case_distinguished version most)

pub from_one_to_grammar : (most : ℕ) → IsGrammar (from_one_to most)
unfolding from_one_to
from_one_to_grammar most = such_grammar (λ n. leb 1 n && leb n most) u64 u64_grammar

pub how_many_grammar : (most : ℕ) → IsGrammar (how_many most)
unfolding how_many
how_many_grammar most = such_grammar (λ n. leb n most) byte byte_grammar

pub and_grammar : {A B : Type 0} (f : Format A) (g : Format B) → IsGrammar f → IsGrammar g → IsGrammar (f & g)
and_grammar f g first second = followed_grammar f (λ _. g) first (λ _. second)

case_grammar : (t : ℕ) → IsGrammar (command_case t)
unfolding command_case
case_grammar zero = made_grammar (λ p. Add p.0 p.1) both_of (node & group) (and_grammar node group node_grammar group_grammar) (λ p fits. refl)
case_grammar (suc zero) = made_grammar Remove first_of node node_grammar (λ p fits. refl)
case_grammar (suc (suc zero)) = made_grammar (λ p. Join p.0 p.1) both_of (node & node) (and_grammar node node node_grammar node_grammar) (λ p fits. refl)
case_grammar (suc (suc (suc zero))) = made_grammar (λ p. Drop p.0 p.1) both_of (node & node) (and_grammar node node node_grammar node_grammar) (λ p fits. refl)
case_grammar (suc (suc (suc (suc zero)))) = made_grammar Reset first_of node node_grammar (λ p fits. refl)
case_grammar (suc (suc (suc (suc (suc n))))) = made_grammar (λ p. Confirm p.0 p.1) both_of (node & u64) (and_grammar node u64 node_grammar u64_grammar) (λ p fits. refl)

case_distinguished : (t : ℕ) (x : Command) → t < 6 → (command_case t).Fits x → command_tag x ≡ t
unfolding command_case
case_distinguished zero x below fits = ap command_tag fits.2
case_distinguished (suc zero) x below fits = ap command_tag fits.2
case_distinguished (suc (suc zero)) x below fits = ap command_tag fits.2
case_distinguished (suc (suc (suc zero))) x below fits = ap command_tag fits.2
case_distinguished (suc (suc (suc (suc zero)))) x below fits = ap command_tag fits.2
case_distinguished (suc (suc (suc (suc (suc n))))) x below fits = let is = ap command_tag fits.2 in omega (arith, is)

pub command_grammar : IsGrammar command
unfolding command
command_grammar = cases_grammar 6 command_tag command_case case_grammar case_distinguished

data_grammar : (version : ℕ) → IsGrammar (data_packet version)
unfolding data_packet
data_grammar version = made_grammar _ _ _ (and_grammar _ _ node_grammar (and_grammar _ _ node_grammar (and_grammar _ _ u64_grammar (and_grammar _ _ u64_grammar (message_grammar version (2 ^ 64 - 1)))))) (λ p fits. refl)

receipt_grammar : IsGrammar receipt_packet
unfolding receipt_packet
receipt_grammar = made_grammar _ _ _ (and_grammar _ _ node_grammar (and_grammar _ _ node_grammar (and_grammar _ _ u64_grammar u64_grammar))) (λ p fits. refl)

order_grammar : IsGrammar order
unfolding order
order_grammar = and_grammar _ _ client_grammar (and_grammar _ _ from_one_grammar command_grammar)

form_grammar : (version t : ℕ) → IsGrammar (step_case version t)
unfolding step_case
form_grammar version zero = made_grammar (λ p. Order p.0 p.1.0 p.1.1) order_of order order_grammar (λ p fits. refl)
form_grammar version (suc zero) = made_grammar Take taken_of (data_packet version) (data_grammar version) (λ p fits. refl)
form_grammar version (suc (suc n)) = made_grammar Clear cleared_of receipt_packet receipt_grammar (λ p fits. refl)

form_distinguished : (version t : ℕ) (s : Step) → t < 3 → (step_case version t).Fits s → step_tag s ≡ t
unfolding step_case
form_distinguished version zero s below fits = ap step_tag fits.2
form_distinguished version (suc zero) s below fits = ap step_tag fits.2
form_distinguished version (suc (suc n)) s below fits = let is = ap step_tag fits.2 in omega (arith, is)

pub step_grammar : (version : ℕ) → IsGrammar (step version)
unfolding step
step_grammar version = cases_grammar 3 step_tag (step_case version) (form_grammar version) (form_distinguished version)

pub steps_grammar : (version : ℕ) → IsGrammar (steps version)
unfolding steps how_many_steps
steps_grammar version = counted_grammar _ (λ _. step version) (such_grammar _ u16 u16_grammar) (λ _. step_grammar version) (λ _. refl)

pub batch_grammar : (version : ℕ) → IsGrammar (batch version)
unfolding batch
batch_grammar version = and_grammar _ (steps version) (from_one_to_grammar (2 ^ 40)) (steps_grammar version)
