use Rattle.std.proofs.Common.{◌++◌, ◌∙◌, append_assoc}
use Rattle.std.specs.Int.{w64, to_be_bytes}
use Rattle.coord_batch.specs.Fields.{at_most}
use Rattle.coord_codec.specs.Worlds.{lane, queue}
use Rattle.coord_codec.proofs.world_writing.put_lane.Goals as goal

pub returns : goal.returns
unfolding lane at_most
returns c =
    let out = c.args.out.now.items in
    let l = c.args.put.now in
    rw (c.in_ok-put_queue.ensures, c.in_ok-put_numbers.ensures, c.base.ensures, c.got.ensures, c.queue.ensures.value)
    (append_assoc (out ++ to_be_bytes w64 l.base) (to_be_bytes w64 l.got) ((queue c.args.version 0).text l.queue) ∙ append_assoc out (to_be_bytes w64 l.base) (to_be_bytes w64 l.got ++ (queue c.args.version 0).text l.queue))
