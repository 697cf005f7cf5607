use Rattle.std.proofs.Common.{◌≡◌, ◌-◌, Some, sym, ap, ◌∙◌}
use Rattle.coord_ledger.specs.Facade.{DriverState, settling_releases}
use Rattle.coord_ledger.proofs.Simulates.{simulates_back}
use Rattle.coord_ledger.proofs.runs.Calls.{gave, same_base}
use Rattle.coord_ledger.proofs.driver.Driver.finish.Goals as goal

pub returns-in-Ok-clause-base : goal.returns-in-Ok-clause-base
returns-in-Ok-clause-base g c = same_base c.self.inside.ledger c.end_flush.new.self c.in-Some.flight c.in-Ok.ensures.taken ∙ ap (λ (d : DriverState g.row.D.Denot). d.ledger.log.base) c.self.view_is

pub returns-in-Ok-clause-released : goal.returns-in-Ok-clause-released
returns-in-Ok-clause-released g c releases is =
    let same : c.in-Ok.releases ≡ releases = cc in
    let gives = c.in-Ok.ensures.released ∙ gave c.self.inside.ledger c.end_flush.new.self c.in-Some.flight c.in-Ok.ensures.taken c.in-Ok.ensures.own in
    sym same ∙ gives ∙ (λ i. settling_releases (c.self.view_is i).ledger.log (c.end_flush.new.self.log.settled - (c.self.view_is i).ledger.log.settled))

-- the call is an event of the driver's machine

pub returns-in-Ok-clause-simulates : goal.returns-in-Ok-clause-simulates
returns-in-Ok-clause-simulates g c =
    let old : DriverState g.row.D.Denot = record { ledger = c.self.inside.ledger; flight = c.self.inside.flight } in
    let holds : c.self.inside.flight ≡ Some c.in-Some.flight = sym c.take.ensures.value ∙ c.in-Some.is in
    rw c.take.ensures.after (rw (sym c.self.view_is) (simulates_back old c.in-Some.flight holds c.end_flush.new.self c.in-Ok.ensures.taken))
