use Rattle.std.proofs.Common.{◌≡◌, ap, ◌∙◌}
use Rattle.coord_types.specs.declared.steps.Command.TheVariants.{Drop}
use Rattle.coord_node.specs.Rules.{Transition, lost}
use Rattle.coord_world.specs.Facade.{World, state, with_command, with_transition}
use Rattle.coord_tables.proofs.Found.{set_stays}
use Rattle.coord_world.proofs.transitions.IsTransitionOf.{act_done, act_room}
use Rattle.coord_world.proofs.tables.Tables.drop_link.Goals as goal

pub carry_out-requires-clause-room : goal.carry_out-requires-clause-room
carry_out-requires-clause-room c =
    let d : Transition = lost (state c.args.self.now c.args.a) c.args.b in
    let after : World = c.drop_lanes.new.self in
    act_room c.in_ok-first.first c.args.a d after.links c.in_ok-first.ensures
    (rw c.drop_lanes.ensures c.requires.first.room)

pub carry_out-requires-2-clause-there : goal.carry_out-requires-2-clause-there
carry_out-requires-2-clause-there c =
    let before : World = c.args.self.now in
    let d : Transition = lost (state before c.args.a) c.args.b in
    let between : c.carry_out.new.self ≡ with_transition (with_command before (Drop c.args.a c.args.b)) c.args.a d =
    c.carry_out.ensures ∙ act_done c.drop_lanes.new.self c.in_ok-first.first c.args.a d c.in_ok-first.ensures ∙ ap (λ w. with_transition w c.args.a d) c.drop_lanes.ensures in
    rw c.in_ok-second.ensures.id (rw between (set_stays before.nodes c.args.a d.state c.args.b c.requires.second.there))

pub carry_out-requires-2-clause-room : goal.carry_out-requires-2-clause-room
carry_out-requires-2-clause-room c =
    let one : Transition = lost (state c.args.self.now c.args.a) c.args.b in
    let d : Transition = lost (state c.args.self.now c.args.b) c.args.a in
    let after : World = c.carry_out.new.self in
    let between : c.carry_out.new.self ≡ with_transition (with_command c.args.self.now (Drop c.args.a c.args.b)) c.args.a one =
    c.carry_out.ensures ∙ act_done c.drop_lanes.new.self c.in_ok-first.first c.args.a one c.in_ok-first.ensures ∙ ap (λ w. with_transition w c.args.a one) c.drop_lanes.ensures in
    act_room c.in_ok-second.second c.args.b d after.links c.in_ok-second.ensures
    (rw between c.requires.second.room)

pub returns-clause-world : goal.returns-clause-world
returns-clause-world c =
    let one : Transition = lost (state c.args.self.now c.args.a) c.args.b in
    let d : Transition = lost (state c.args.self.now c.args.b) c.args.a in
    let between : c.carry_out.new.self ≡ with_transition (with_command c.args.self.now (Drop c.args.a c.args.b)) c.args.a one =
    c.carry_out.ensures ∙ act_done c.drop_lanes.new.self c.in_ok-first.first c.args.a one c.in_ok-first.ensures ∙ ap (λ w. with_transition w c.args.a one) c.drop_lanes.ensures in
    c.carry_out-2.ensures ∙ act_done c.carry_out.new.self c.in_ok-second.second c.args.b d c.in_ok-second.ensures ∙ ap (λ w. with_transition w c.args.b d) between
