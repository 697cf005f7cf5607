use Rattle.std.proofs.Common.{sym, subst, ◌∙◌}
use Rattle.coord_engine.specs.Facade.{CanHold, based_on}
use Rattle.coord_engine.proofs.Flights.{begun_at}
use Rattle.coord_engine.proofs.engine.Engine.begin.Goals as goal

pub returns : goal.returns
returns g c =
    let b = based_on g.D.Disk.model g.L.Origin.base g.L.Origin.before in
    let is = subst (CanHold b) (c.deref.ensures ∙ sym c.deref_mut-2.ensures.value) c.keeps.ensures in
    begun_at b c.deref_mut-2.result.now c.begin.new.self is c.begin.result c.begin.ensures.nothing c.begin.ensures.begun
