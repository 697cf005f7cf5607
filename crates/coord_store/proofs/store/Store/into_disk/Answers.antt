use Rattle.coord_store.proofs.Holding.{image_gives}
use Rattle.coord_store.proofs.store.Store.into_disk.Goals as goal

pub returns-clause-reopens : goal.returns-clause-reopens
returns-clause-reopens g c =
    let journal = c.self.inside.journal in
    let m = g.D.Disk.model in
    let w = c.self.inside.world in
    rw (← c.self.view_is) (λ k none. rw c.into_disk.ensures (image_gives m journal w (c.self.invariant.holds k none) (m.present journal.disk).read (g.met.D.Disk.laws.reads_image journal.disk k)))
