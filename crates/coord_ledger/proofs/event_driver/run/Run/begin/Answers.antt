use Rattle.coord_ledger.proofs.follows.FollowsAnswers.{follows_begun}
use Rattle.coord_ledger.proofs.event_driver.run.Run.begin.Goals as goal

pub returns-clause-answered : goal.returns-clause-answered
returns-clause-answered g c s is follows = follows_begun c.args.self.now s is follows c.begin.new.self c.begin.result c.begin.ensures.simulates
