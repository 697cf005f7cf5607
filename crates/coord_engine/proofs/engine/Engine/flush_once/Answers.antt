use Rattle.std.proofs.Common.{subst}
use Rattle.coord_engine.specs.Facade.{Begins, based_on}
use Rattle.coord_engine.proofs.Returned.{returned_back}
use Rattle.coord_engine.proofs.engine.Engine.flush_once.Goals as goal

pub returns : goal.returns
returns g c =
    let b = based_on g.D.Disk.model g.L.Origin.base g.L.Origin.before in
    let leaves = subst (Begins b) c.in-Ok-Some.field-0-is c.in-Ok-Some.ensures in
    returned_back b c.in-Ok-Some.flight c.commit-committed.new.self c.end-releases.result leaves c.commit-committed.result c.commit-committed.ensures.commits c.end-releases.ensures.released c.end-releases.ensures.back c.answer_of.result c.answer_of.ensures
