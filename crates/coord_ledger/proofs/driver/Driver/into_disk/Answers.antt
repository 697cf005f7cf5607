use Rattle.std.proofs.Common.{◌≡◌, true, sym, subst, IfSome}
use Rattle.coord_ledger.specs.Facade.{HoldsFlight, LedgerGives}
use Rattle.coord_ledger.proofs.follows.Follows.{flight_images, ledger_images}
use Rattle.coord_ledger.proofs.driver.Driver.into_disk.Goals as goal

pub returns-in-Some-clause-images : goal.returns-in-Some-clause-images
returns-in-Some-clause-images g c =
    let l = c.self.inside.ledger in
    let f = c.in-Some.flight in
    let own = subst (HoldsFlight l) c.in-Some.is c.self.invariant in
    rw (sym c.self.view_is) (rw c.in-Some.is (rw c.into_disk.ensures
    (flight_images l f (g.D.Disk.model.keeps_model f.disk) g.D.Disk.model.present own c.lemma_images_give_world.ensures.images)))

pub returns-in-Ok-clause-images : goal.returns-in-Ok-clause-images
returns-in-Ok-clause-images g c =
    let l = c.self.inside.ledger in
    let d = c.in-Ok.store.disk in
    let gives = subst (λ o. IfSome o (λ d. g.D.Disk.model.keeps_model d ≡ true → LedgerGives g.D.Disk.model.present l d)) c.in-Ok.ensures.home c.lemma_images_give_settled.ensures in
    rw (sym c.self.view_is) (rw c.in-None.is (rw c.into_disk-in-Ok.ensures.disk
    (ledger_images l d (g.D.Disk.model.keeps_model d) g.D.Disk.model.present gives)))
