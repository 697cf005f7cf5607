use Rattle.coord_ledger.proofs.machine.SignalsBetween as law
use Rattle.coord_ledger.proofs.laws.released_between.Goals as goal

pub returns : goal.returns
returns c = law.released_between
