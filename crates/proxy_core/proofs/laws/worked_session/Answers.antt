use Rattle.proxy_core.proofs.WorkedSession.{worked_session}
use Rattle.proxy_core.proofs.laws.worked_session.Goals as goal

pub returns : goal.returns
returns c = worked_session
