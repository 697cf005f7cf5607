use Rattle.coord_ledger.proofs.follows.FollowsAnswers.{follows_committed}
use Rattle.coord_ledger.proofs.event_driver.run.Run.commit.Goals as goal

pub returns-clause-answered : goal.returns-clause-answered
returns-clause-answered g c s is follows = follows_committed c.args.self.now s is follows c.commit.new.self c.commit.result c.commit.ensures.ledger c.commit.ensures.simulates

pub returns-clause-disk : goal.returns-clause-disk
returns-clause-disk g c s is follows = c.commit.ensures.disk s is follows.represents
