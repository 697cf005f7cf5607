use Rattle.proxy_core.proofs.Session.{every_run}
use Rattle.proxy_core.proofs.laws.every_run.Goals as goal

pub returns : goal.returns
returns c = every_run
