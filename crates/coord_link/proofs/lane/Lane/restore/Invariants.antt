use Rattle.std.proofs.Common.{◌≡◌, take}
use Rattle.coord_link.proofs.lane.Lane.restore.Given as goal

abbrev pub invariant-loop-msg : goal.invariant-loop-msg
invariant-loop-msg l = l.lane ≡ record { inc = l.inc; base = l.base; got = l.got; queue = take l.msg-index l.queue }
