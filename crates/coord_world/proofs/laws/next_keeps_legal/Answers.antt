use Rattle.coord_world.proofs.legal.NextKeepsLegal.{legal_next}
use Rattle.coord_world.proofs.laws.next_keeps_legal.Goals as goal

pub returns : goal.returns
returns c = legal_next
