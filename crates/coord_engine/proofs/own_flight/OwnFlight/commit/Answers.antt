use Rattle.coord_engine.proofs.Past.{committed}
use Rattle.coord_engine.proofs.own_flight.OwnFlight.commit.Goals as goal

pub invariant_of-self : goal.invariant_of-self
invariant_of-self g c =
    let is = c.commit.ensures in
    let flew = c.self.invariant in
    record {
      settled = flew.settled;
      read_them = flew.read_them;
      flies = committed g.D.Disk.model g.L.Origin.disk g.L.Origin.base flew.settled c.self.inside.flight c.commit.new.flight c.commit.result flew.flies is.first is.commits is.moments is.good is.torn;
    }
