use Rattle.coord_member.proofs.Refusing.{refusers_ask}
use Rattle.coord_member.proofs.laws.refusers_ask.Goals as goal

pub returns : goal.returns
returns c = refusers_ask
