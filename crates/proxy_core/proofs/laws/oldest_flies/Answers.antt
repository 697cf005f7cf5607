use Rattle.proxy_core.proofs.Fair.{oldest_flies}
use Rattle.proxy_core.proofs.laws.oldest_flies.Goals as goal

pub returns : goal.returns
returns c = oldest_flies
