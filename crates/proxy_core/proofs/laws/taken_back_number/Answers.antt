use Rattle.proxy_core.proofs.TakenBack.{taken_back_number}
use Rattle.proxy_core.proofs.laws.taken_back_number.Goals as goal

pub returns : goal.returns
returns c = taken_back_number
