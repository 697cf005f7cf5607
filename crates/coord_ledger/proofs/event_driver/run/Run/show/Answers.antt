use Rattle.std.proofs.Common.{sym, ap}
use Rattle.coord_ledger.proofs.runs.Answers.{follows_show, shown_as}
use Rattle.coord_ledger.proofs.event_driver.run.Run.show.Goals as goal

pub returns-in-Ok-clause-answered : goal.returns-in-Ok-clause-answered
returns-in-Ok-clause-answered g c s is follows =
    follows_show c.args.self.now s is follows c.show.result c.show.new.seen _ (rw c.ledger.ensures at c.show.ensures.stopped) (rw c.ledger.ensures at c.show.ensures.shown) c.show.ensures.unseen (ap shown_as (sym c.in-Ok.is))

pub returns-in-Err-clause-answered : goal.returns-in-Err-clause-answered
returns-in-Err-clause-answered g c s is follows =
    follows_show c.args.self.now s is follows c.show.result c.show.new.seen _ (rw c.ledger.ensures at c.show.ensures.stopped) (rw c.ledger.ensures at c.show.ensures.shown) c.show.ensures.unseen (ap shown_as (sym c.in-Err.is))
