use Rattle.coord_world.proofs.listings.RowsOfWorldFit as law
use Rattle.coord_world.proofs.laws.rows_of_world_fit.Goals as goal

pub returns : goal.returns
returns c = law.rows_of_world_fit
