use Rattle.std.proofs.Common.{sym, ap, ◌∙◌}
use Rattle.coord_ledger.specs.Facade.{DriverState}
use Rattle.coord_ledger.proofs.runs.EachMoment.{flight_survives, home_survives}
use Rattle.coord_ledger.proofs.driver.Driver.lemma_survives.Goals as goal

pub returns-in-Some : goal.returns-in-Some
returns-in-Some g c s is represents =
    flight_survives g.D.Disk.model c.args.self.now s is represents c.in-Some.flight (sym (ap (λ (d : DriverState g.row.D.Denot). d.flight) c.self.view_is) ∙ c.in-Some.is) c.lemma_images_give_world.ensures.images

pub returns-in-None : goal.returns-in-None
returns-in-None g c s is represents =
    home_survives g.D.Disk.model c.args.self.now s is represents (sym (ap (λ (d : DriverState g.row.D.Denot). d.flight) c.self.view_is) ∙ c.in-None.is)
    (rw (sym (ap (λ (d : DriverState g.row.D.Denot). d.ledger) c.self.view_is)) c.lemma_images_give_settled.ensures)
