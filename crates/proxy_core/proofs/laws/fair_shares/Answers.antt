use Rattle.proxy_core.proofs.Fair.{fair_shares}
use Rattle.proxy_core.proofs.laws.fair_shares.Goals as goal

pub returns : goal.returns
returns c = fair_shares
