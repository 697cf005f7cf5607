use Rattle.std.proofs.Common.{◌≡◌, ◌++◌, take}
use Rattle.std.specs.List.{flat_map}
use Rattle.coord_batch.specs.Fields.{message}
use Rattle.coord_codec.proofs.world_writing.put_messages.Given as goal

abbrev pub invariant-loop-msg : goal.invariant-loop-msg
invariant-loop-msg l = l.out.items ≡ l.fn.out.items ++ flat_map (message l.version 0).text (take l.msg-index l.queue)
