use Rattle.proxy_core.proofs.TakenBack.{taken_back_in_time}
use Rattle.proxy_core.proofs.laws.taken_back_in_time.Goals as goal

pub returns : goal.returns
returns c = taken_back_in_time
