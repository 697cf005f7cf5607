use Rattle.std.proofs.Common.{None, refl}
use Rattle.coord_store.proofs.Holding.{kept_on}
use Rattle.coord_store.proofs.store.Store.over.Goals as goal

pub invariant_of-result : goal.invariant_of-result
invariant_of-result g c = kept_on g.D.Disk.model c.args.journal c.args.world None refl c.requires.legal c.requires.going c.requires.holds
