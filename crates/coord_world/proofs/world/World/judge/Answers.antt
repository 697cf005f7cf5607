use Rattle.std.proofs.Common.{sym, ◌∙◌}
use Rattle.coord_world.proofs.Acceptance.{verdict_fresh, verdict_fresh_itself, verdict_kind}
use Rattle.coord_world.proofs.world.World.judge.Goals as goal

pub returns-clause-fresh : goal.returns-clause-fresh
returns-clause-fresh c k is =
    let step = c.args.step.now in
    let fresh = verdict_fresh c.self.inside.tables c.settled.inside.tables step k (sym c.judge.ensures ∙ is) in
    rw (sym c.self.view_is) (rw (sym c.settled.view_is) fresh)

pub returns-clause-itself : goal.returns-clause-itself
returns-clause-itself c k is =
    rw (sym c.self.view_is) (verdict_fresh_itself c.self.inside.tables c.settled.inside.tables c.args.step.now k (sym c.judge.ensures ∙ is))

pub returns-clause-kind : goal.returns-clause-kind
returns-clause-kind c k is =
    rw (sym c.self.view_is) (verdict_kind c.self.inside.tables c.settled.inside.tables c.args.step.now k (sym c.judge.ensures ∙ is))
