use Rattle.std.proofs.Common.{ap, refl, subst}
use Rattle.coord_engine.specs.State.{based_on}
use Rattle.coord_server.specs.EngineDesk.{DeskState, ShowsTo, read_in}
use Rattle.coord_server.proofs.desk.EngineDeskDesk.show.Goals as goal

-- what the desk has read before is what its reader has
pub returns : goal.returns
returns g c =
    let b = based_on g.D.Disk.model g.L.Origin.base g.L.Origin.before in
    let later = c.show.new in (
      c.show.result,
      refl,
      subst (λ (d : DeskState g.row.P.Denot). ShowsTo b c.show.result d.seen later.seen d.read (read_in g.L.Origin.earlier later.reader)) c.self.view_is c.show.ensures.shown,
      ap (λ (d : DeskState g.row.P.Denot). d.notes) c.self.view_is,
      ap (λ (d : DeskState g.row.P.Denot). d.port) c.self.view_is,
    )
