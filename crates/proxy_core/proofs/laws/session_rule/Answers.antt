use Rattle.proxy_core.proofs.Server.{session_rule}
use Rattle.proxy_core.proofs.laws.session_rule.Goals as goal

pub returns : goal.returns
returns c = session_rule
