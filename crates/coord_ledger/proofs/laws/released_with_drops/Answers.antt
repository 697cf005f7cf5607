use Rattle.coord_ledger.proofs.machine.SignalsBetween as law
use Rattle.coord_ledger.proofs.laws.released_with_drops.Goals as goal

pub returns : goal.returns
returns c = law.released_with_drops
