-- The step is the one that the world is ready for.
use Rattle.std.proofs.Common.{subst}
use Rattle.coord_world.specs.code.Ready.{IsReadyFor}
use Rattle.coord_world.proofs.transitions.CanApply.{are_numbered, can_take, front_room, got_room, near_room}
use Rattle.coord_world.proofs.tables.Tables.execute.Goals as goal

pub deliver-requires-clause-acts : goal.deliver-requires-clause-acts
deliver-requires-clause-acts c = can_take c.args.self.now c.in-Take.packet (subst (IsReadyFor c.args.self.now) c.in-Take.is c.requires)

pub deliver-requires-clause-near : goal.deliver-requires-clause-near
deliver-requires-clause-near c = near_room c.args.self.now c.in-Take.packet (subst (IsReadyFor c.args.self.now) c.in-Take.is c.requires)

pub deliver-requires-clause-taken : goal.deliver-requires-clause-taken
deliver-requires-clause-taken c l there = got_room c.args.self.now c.requires.ranges c.in-Take.packet.from c.in-Take.packet.to l there

pub deliver-requires-clause-numbered : goal.deliver-requires-clause-numbered
deliver-requires-clause-numbered c = are_numbered c.args.self.now c.requires.ranges

pub clear_front-requires-clause-numbered : goal.clear_front-requires-clause-numbered
clear_front-requires-clause-numbered c l there = front_room c.args.self.now c.requires.ranges c.in-Clear.packet.from c.in-Clear.packet.to l there
