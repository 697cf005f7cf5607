use Rattle.coord_store.proofs.Exclusion as law
use Rattle.coord_store.proofs.laws.recovered_is_one.Goals as goal

pub returns : goal.returns
returns c = law.recovered_is_one
