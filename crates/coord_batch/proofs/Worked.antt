-- The worked spellings compute.
use Rattle.std.proofs.Common.{arith}
use Rattle.coord_batch.specs.Fields.{at_most, client, distance, from_one, from_one_to, group, message, message_case, node, unless}
use Rattle.coord_batch.specs.Format.{items_at}
use Rattle.coord_batch.specs.Steps.{batch, command, command_case, data_packet, how_many_steps, order, receipt_packet, step, step_case, steps}
use Rattle.coord_batch.specs.WorkedBytes.{WorkedBytes}

pub worked_bytes : WorkedBytes
unfolding at_most client distance from_one from_one_to group message message_case node unless items_at batch command command_case data_packet how_many_steps order receipt_packet step step_case steps
worked_bytes = grind arith
