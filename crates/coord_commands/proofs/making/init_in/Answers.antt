use Rattle.coord_commands.proofs.Endings.{reported}
use Rattle.coord_commands.proofs.making.init_in.Goals as goal

pub returns-clause-ended : goal.returns-clause-ended
returns-clause-ended g c = rw (← c.streams.view_is) (reported _ _ c.init_at.result c.report.result _ _ c.report.ensures.status c.report.ensures.answered c.init_at.ensures.printed c.init_at.ensures.fault c.init_at.ensures.cut)
