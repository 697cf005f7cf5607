use Rattle.std.proofs.Common.{◌∙◌}
use Rattle.coord_node.specs.Rules.{request}
use Rattle.coord_world.specs.protocol.NumberedWorld.{state}
use Rattle.coord_world.proofs.transitions.IsTransitionOf.{act_done, act_room}
use Rattle.coord_world.proofs.tables.Tables.reset.Goals as goal

pub carry_out-requires-clause-room : goal.carry_out-requires-clause-room
carry_out-requires-clause-room c =
    let before = c.args.self.now in
    act_room c.in_ok-node_transition.node_transition c.args.id (request before.version (state before c.args.id)) before.links c.in_ok-node_transition.ensures c.requires.acts.room

pub returns-clause-world : goal.returns-clause-world
returns-clause-world c =
    let before = c.args.self.now in
    c.carry_out.ensures ∙ act_done before c.in_ok-node_transition.node_transition c.args.id (request before.version (state before c.args.id)) c.in_ok-node_transition.ensures
