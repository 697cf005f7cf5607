use Rattle.std.proofs.Common.{refl}
use Rattle.coord_ledger.specs.Facade.{model_held}
use Rattle.coord_ledger.proofs.runs.Calls.{crash_on}
use Rattle.coord_ledger.proofs.follows.FollowsAnswers.{follows_opened}
use Rattle.coord_ledger.proofs.event_driver.run.Run.crash.Goals as goal

pub returns-in-Ok-clause-answered : goal.returns-in-Ok-clause-answered
returns-in-Ok-clause-answered g c s is follows promised =
    follows_opened c.args.self s is follows _ c.in-Ok.count c.new.ensures.items c.new-in-Ok.ensures refl (c.in-Ok.ensures.simulates (crash_on (model_held g.D.Disk.model c.args.self.driver) promised))

pub returns-in-Ok-clause-disk : goal.returns-in-Ok-clause-disk
returns-in-Ok-clause-disk g c s is follows = c.in-Ok.ensures.disk s is follows.represents

pub returns-in-Err-clause-answered : goal.returns-in-Err-clause-answered
returns-in-Err-clause-answered g c s is follows promised = follows.released

pub returns-in-Err-clause-disk : goal.returns-in-Err-clause-disk
returns-in-Err-clause-disk g c s is follows = c.in-Err.ensures.disk s is follows.represents
