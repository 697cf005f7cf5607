use Rattle.coord_commands.proofs.Endings.{reported}
use Rattle.coord_commands.proofs.inspection.show_in.Goals as goal

pub returns-clause-ended : goal.returns-clause-ended
returns-clause-ended g c = rw (← c.streams.view_is) (reported _ _ c.show_at.result c.report.result _ _ c.report.ensures.status c.report.ensures.answered c.show_at.ensures.shown c.show_at.ensures.fault c.show_at.ensures.cut)
