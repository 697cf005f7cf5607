use Rattle.proxy_core.proofs.Session.{at_most_once}
use Rattle.proxy_core.proofs.laws.at_most_once.Goals as goal

pub returns : goal.returns
returns c = at_most_once
