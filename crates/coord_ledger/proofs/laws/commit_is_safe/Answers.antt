use Rattle.coord_ledger.proofs.runs.EachMoment as law
use Rattle.coord_ledger.proofs.laws.commit_is_safe.Goals as goal

pub returns : goal.returns
returns c = law.commit_is_safe
