use Rattle.coord_store.proofs.Holding.{stays}
use Rattle.coord_store.proofs.store.Store.lemma_images_give_world.Goals as goal

pub returns-clause-images : goal.returns-clause-images
returns-clause-images g c = rw (← c.self.view_is) c.self.invariant.images

pub returns-clause-still : goal.returns-clause-still
returns-clause-still g c = rw (← c.self.view_is) (λ k none. stays g.D.Disk.model g.met.D.Disk.laws _ k (c.self.invariant.images k) none)
