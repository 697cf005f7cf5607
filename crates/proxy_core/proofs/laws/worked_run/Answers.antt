use Rattle.std.proofs.Common.{refl}
use Rattle.proxy_core.proofs.laws.worked_run.Goals as goal

pub returns : goal.returns
returns c = record { places = refl; numbers = refl; firsts = refl; delivered = refl }
