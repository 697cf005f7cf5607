use Rattle.std.proofs.Common.{ap, ◌∙◌}
use Rattle.coord_node.specs.Rules.{transition}
use Rattle.coord_world.specs.Facade.{World, state, with_transition}
use Rattle.coord_world.proofs.transitions.IsTransitionOf.{act_done, act_room}
use Rattle.coord_world.proofs.tables.Tables.deliver.Goals as goal

pub carry_out-requires-clause-room : goal.carry_out-requires-clause-room
carry_out-requires-clause-room c =
    let p = c.args.packet.now in
    let d = transition c.args.self.now.version p.msg (state c.args.self.now p.to) p.from in
    let after : World = c.take_front.new.self in
    act_room c.in_ok-node_transition.node_transition p.to d after.links c.in_ok-node_transition.ensures
    (rw c.take_front.ensures c.requires.acts.room)

pub returns-clause-world : goal.returns-clause-world
returns-clause-world c =
    let p = c.args.packet.now in
    let d = transition c.args.self.now.version p.msg (state c.args.self.now p.to) p.from in
    c.carry_out.ensures ∙ act_done c.take_front.new.self c.in_ok-node_transition.node_transition p.to d c.in_ok-node_transition.ensures ∙ ap (λ w. with_transition w p.to d) c.take_front.ensures
