-- Each arm's command is the one that the world is ready for.
use Rattle.std.proofs.Common.{subst}
use Rattle.coord_types.specs.declared.steps.Step.TheVariants.{Order}
use Rattle.coord_world.specs.code.Ready.{IsReadyFor}
use Rattle.coord_world.proofs.transitions.CanApply.{are_numbered, can_reset, can_drop_first, can_drop_second, confirm_there, drop_linked, join_apart, join_free, join_room, join_there}
use Rattle.coord_world.proofs.tables.Tables.obey.Goals as goal

pub join-requires-clause-one : goal.join-requires-clause-one
join-requires-clause-one c =
    (join_there c.args.self.now c.args.client c.args.number c.in-Join.a c.in-Join.b
    (subst (λ x. IsReadyFor c.args.self.now (Order c.args.client c.args.number x)) c.in-Join.is c.requires)).0

pub join-requires-clause-other : goal.join-requires-clause-other
join-requires-clause-other c =
    (join_there c.args.self.now c.args.client c.args.number c.in-Join.a c.in-Join.b
    (subst (λ x. IsReadyFor c.args.self.now (Order c.args.client c.args.number x)) c.in-Join.is c.requires)).1

pub join-requires-clause-room : goal.join-requires-clause-room
join-requires-clause-room c =
    join_room c.args.self.now c.args.client c.args.number c.in-Join.a c.in-Join.b
    (subst (λ x. IsReadyFor c.args.self.now (Order c.args.client c.args.number x)) c.in-Join.is c.requires)

pub join-requires-clause-apart : goal.join-requires-clause-apart
join-requires-clause-apart c =
    join_apart c.args.self.now c.args.client c.args.number c.in-Join.a c.in-Join.b
    (subst (λ x. IsReadyFor c.args.self.now (Order c.args.client c.args.number x)) c.in-Join.is c.requires)

pub join-requires-clause-free : goal.join-requires-clause-free
join-requires-clause-free c =
    join_free c.args.self.now c.args.client c.args.number c.in-Join.a c.in-Join.b
    (subst (λ x. IsReadyFor c.args.self.now (Order c.args.client c.args.number x)) c.in-Join.is c.requires)

pub drop_link-requires-clause-first : goal.drop_link-requires-clause-first
drop_link-requires-clause-first c =
    can_drop_first c.args.self.now c.args.client c.args.number c.in-Drop.a c.in-Drop.b
    (subst (λ x. IsReadyFor c.args.self.now (Order c.args.client c.args.number x)) c.in-Drop.is c.requires)

pub drop_link-requires-clause-second : goal.drop_link-requires-clause-second
drop_link-requires-clause-second c =
    can_drop_second c.args.self.now c.args.client c.args.number c.in-Drop.a c.in-Drop.b
    (subst (λ x. IsReadyFor c.args.self.now (Order c.args.client c.args.number x)) c.in-Drop.is c.requires)

pub drop_link-requires-clause-linked : goal.drop_link-requires-clause-linked
drop_link-requires-clause-linked c =
    drop_linked c.args.self.now c.args.client c.args.number c.in-Drop.a c.in-Drop.b
    (subst (λ x. IsReadyFor c.args.self.now (Order c.args.client c.args.number x)) c.in-Drop.is c.requires)

pub drop_link-requires-clause-numbered : goal.drop_link-requires-clause-numbered
drop_link-requires-clause-numbered c = are_numbered c.args.self.now c.requires.ranges

pub reset-requires-clause-acts : goal.reset-requires-clause-acts
reset-requires-clause-acts c =
    can_reset c.args.self.now c.args.client c.args.number c.in-Reset.id
    (subst (λ x. IsReadyFor c.args.self.now (Order c.args.client c.args.number x)) c.in-Reset.is c.requires)

pub reset-requires-clause-numbered : goal.reset-requires-clause-numbered
reset-requires-clause-numbered c = are_numbered c.args.self.now c.requires.ranges

pub confirm-requires : goal.confirm-requires
confirm-requires c =
    confirm_there c.args.self.now c.args.client c.args.number c.in-Confirm.id c.in-Confirm.epoch
    (subst (λ x. IsReadyFor c.args.self.now (Order c.args.client c.args.number x)) c.in-Confirm.is c.requires)
