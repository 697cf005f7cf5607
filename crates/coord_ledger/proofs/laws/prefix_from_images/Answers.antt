use Rattle.coord_ledger.proofs.machine.Safe as law
use Rattle.coord_ledger.proofs.laws.prefix_from_images.Goals as goal

pub returns : goal.returns
returns c = law.prefix_from_images
