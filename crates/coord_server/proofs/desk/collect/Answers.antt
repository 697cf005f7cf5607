use Rattle.coord_engine.specs.State.{based_on}
use Rattle.coord_server.proofs.Reading.{collected}
use Rattle.coord_server.proofs.desk.collect.Goals as goal

pub returns-clause-replied : goal.returns-clause-replied
returns-clause-replied g c =
    let b = based_on g.D.Disk.model g.L.Origin.base g.L.Origin.before in
    collected b g.L.Origin.history g.L.Origin.earlier c.args.reader.now c.collect.new.reader c.args.ticket c.collect.result c.without_ticket.result c.requires c.collect.ensures.begins c.collect.ensures.answered c.without_ticket.ensures
