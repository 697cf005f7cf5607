use Rattle.coord_world.proofs.listings.RowsOfWorldFit as law
use Rattle.coord_world.proofs.laws.rows_give_world.Goals as goal

pub returns : goal.returns
returns c = law.rows_give_world
