-- The formats of the fields of batches and worlds.
use Rattle.std.specs.Prelude.{ℕ, zero, suc, ◌==◌, ◌&&◌, nat_le, Bool, true, false}
use Rattle.coord_types.specs.Messages.{carried}
use Rattle.coord_types.specs.declared.limits.TheConstants.{MAX_CLIENTS, MAX_GROUPS, MAX_NODES}
use Rattle.coord_types.specs.declared.messages.Msg.{Msg}
use Rattle.coord_types.specs.declared.messages.Msg.TheVariants as msg
use Rattle.coord_batch.specs.Format.{Format, byte, u64, nothing, such_that, made, cases}

-- a node's number, in one byte
unfoldable pub node : Format ℕ
node = such_that (λ n. nat_le 1 n && nat_le n MAX_NODES) byte

-- a group's number, in one byte
unfoldable pub group : Format ℕ
group = such_that (λ n. nat_le 1 n && nat_le n MAX_GROUPS) byte

-- a client's number, in one byte
unfoldable pub client : Format ℕ
client = such_that (λ n. nat_le 1 n && nat_le n MAX_CLIENTS) byte

-- a number of at least 1, in eight bytes
unfoldable pub from_one : Format ℕ
from_one = such_that (nat_le 1) u64

-- a number of at most `most`, in eight bytes
unfoldable pub at_most : ℕ → Format ℕ
at_most most = such_that (λ n. nat_le n most) u64

-- a number from 1 to `most`, in eight bytes
unfoldable pub from_one_to : ℕ → Format ℕ
from_one_to most = such_that (λ n. nat_le 1 n && nat_le n most) u64

-- the number of items, in one byte, at most `most`
unfoldable pub how_many : ℕ → Format ℕ
how_many most = such_that (λ n. nat_le n most) byte

-- if the test holds, no bytes, and the number is 0; otherwise, a number of at most `most`
unfoldable pub unless : Bool → ℕ → Format ℕ
unless true most = nothing
unless false most = at_most most

-- a distance of at most `most`; in version 1 a distance takes no bytes and is 0
unfoldable pub distance : ℕ → ℕ → Format ℕ
distance version most = unless (version == 1) most

abbrev pub message_tag : Msg → ℕ
message_tag (msg.Abort k) = 0
message_tag msg.Ack = 1
message_tag msg.Ready = 2

unfoldable pub message_case : ℕ → ℕ → ℕ → Format Msg
message_case version most zero = made msg.Abort carried (distance version most)
message_case version most (suc zero) = made (λ n. msg.Ack) carried nothing
message_case version most (suc (suc n)) = made (λ n. msg.Ready) carried nothing

-- a message: 0 for an Abort, followed by a distance of at most `most`; 1 for an Ack; 2 for a Ready
unfoldable pub message : ℕ → ℕ → Format Msg
message version most = cases 3 message_tag (message_case version most)
