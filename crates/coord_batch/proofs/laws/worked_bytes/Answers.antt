use Rattle.coord_batch.proofs.Worked as worked
use Rattle.coord_batch.proofs.laws.worked_bytes.Goals as goal

pub returns : goal.returns
returns c = worked.worked_bytes
