use Rattle.coord_engine.proofs.Past.{closed_along}
use Rattle.coord_engine.proofs.guarded.Guarded.abandon.Goals as goal

pub returns-clause-along : goal.returns-clause-along
returns-clause-along g c =
    let inv = c.self.invariant in
    let is = c.left_of.ensures in
    closed_along g.D.Disk.model g.L.Origin.disk g.L.Origin.base c.left_of.result.trail.items c.self.inside.ledger c.left_of.result.store.disk is.store.0 is.log.1 inv.4 inv.8
