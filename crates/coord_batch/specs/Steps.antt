-- The grammar of steps and of batches, by version.
use Rattle.std.specs.Prelude.{ℕ, zero, suc, ◌-◌, ◌^◌, ◌&&◌, nat_le, List}
use Rattle.coord_types.specs.declared.limits.TheConstants.{MAX_BATCH_STEPS, MAX_STEPS}
use Rattle.coord_types.specs.declared.messages.Msg.TheVariants as msg
use Rattle.coord_types.specs.declared.packets.DataPacket.{DataPacket}
use Rattle.coord_types.specs.declared.packets.ReceiptPacket.{ReceiptPacket}
use Rattle.coord_types.specs.declared.steps.Command.{Command}
use Rattle.coord_types.specs.declared.steps.Command.TheVariants.{Add, Remove, Join, Drop, Reset, Confirm}
use Rattle.coord_types.specs.declared.steps.Step.{Step}
use Rattle.coord_types.specs.declared.steps.Step.TheVariants.{Order, Take, Clear}
use Rattle.coord_batch.specs.Format.{Format, u16, u64, such_that, ◌&◌, made, cases, counted}
use Rattle.coord_batch.specs.Fields.{node, group, client, message, from_one, from_one_to}

-- the byte that names the form of a command
abbrev pub command_tag : Command → ℕ
command_tag (Add u g) = 0
command_tag (Remove u) = 1
command_tag (Join a b) = 2
command_tag (Drop a b) = 3
command_tag (Reset u) = 4
command_tag (Confirm u e) = 5

abbrev pub first_of : Command → ℕ
first_of (Add u g) = u
first_of (Remove u) = u
first_of (Join a b) = a
first_of (Drop a b) = a
first_of (Reset u) = u
first_of (Confirm u e) = u

abbrev pub second_of : Command → ℕ
second_of (Add u g) = g
second_of (Remove u) = 0
second_of (Join a b) = b
second_of (Drop a b) = b
second_of (Reset u) = 0
second_of (Confirm u e) = e

abbrev pub both_of : Command → ℕ × ℕ
both_of x = (first_of x, second_of x)

unfoldable pub command_case : ℕ → Format Command
command_case zero = made (λ p. Add p.0 p.1) both_of (node & group)
command_case (suc zero) = made Remove first_of node
command_case (suc (suc zero)) = made (λ p. Join p.0 p.1) both_of (node & node)
command_case (suc (suc (suc zero))) = made (λ p. Drop p.0 p.1) both_of (node & node)
command_case (suc (suc (suc (suc zero)))) = made Reset first_of node
command_case (suc (suc (suc (suc (suc n))))) = made (λ p. Confirm p.0 p.1) both_of (node & u64)

unfoldable pub command : Format Command
command = cases 6 command_tag command_case

unfoldable pub data_packet : ℕ → Format DataPacket
data_packet version =
    made (λ p. record { from = p.0; to = p.1.0; inc = p.1.1.0; number = p.1.1.1.0; msg = p.1.1.1.1 }) (λ d. (d.from, (d.to, (d.inc, (d.number, d.msg)))))
    (node & (node & (u64 & (u64 & message version (2 ^ 64 - 1)))))

unfoldable pub receipt_packet : Format ReceiptPacket
receipt_packet =
    made (λ p. record { from = p.0; to = p.1.0; inc = p.1.1.0; number = p.1.1.1 }) (λ r. (r.from, (r.to, (r.inc, r.number))))
    (node & (node & (u64 & u64)))

-- a client's order: the client, the order's number and its command
unfoldable pub order : Format (ℕ × (ℕ × Command))
order = client & (from_one & command)

abbrev pub step_tag : Step → ℕ
step_tag (Order c n x) = 0
step_tag (Take p) = 1
step_tag (Clear p) = 2

-- placeholders for the packets of steps that have no packet
abbrev no_packet : DataPacket
no_packet = record { from = 0; to = 0; inc = 0; number = 0; msg = msg.Ack }

abbrev no_receipt : ReceiptPacket
no_receipt = record { from = 0; to = 0; inc = 0; number = 0 }

abbrev pub order_of : Step → ℕ × (ℕ × Command)
order_of (Order c n x) = (c, (n, x))
order_of s = (0, (0, Reset 0))

abbrev pub taken_of : Step → DataPacket
taken_of (Take p) = p
taken_of s = no_packet

abbrev pub cleared_of : Step → ReceiptPacket
cleared_of (Clear r) = r
cleared_of s = no_receipt

unfoldable pub step_case : ℕ → ℕ → Format Step
step_case version zero = made (λ p. Order p.0 p.1.0 p.1.1) order_of order
step_case version (suc zero) = made Take taken_of (data_packet version)
step_case version (suc (suc n)) = made Clear cleared_of receipt_packet

unfoldable pub step : ℕ → Format Step
step version = cases 3 step_tag (step_case version)

-- the number of steps in a batch
unfoldable pub how_many_steps : Format ℕ
how_many_steps = such_that (λ n. nat_le 1 n && nat_le n MAX_BATCH_STEPS) u16

unfoldable pub steps : ℕ → Format (List Step)
steps version = counted how_many_steps (λ _. step version)

-- a batch: the number of its first step, and the steps
unfoldable pub batch : ℕ → Format (ℕ × List Step)
batch version = from_one_to MAX_STEPS & steps version
