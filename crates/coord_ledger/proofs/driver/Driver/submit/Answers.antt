use Rattle.std.proofs.Common.{subst}
use Rattle.coord_ledger.specs.Facade.{DriverState, Simulates, Submit, answer_to}
use Rattle.coord_ledger.proofs.runs.Calls.{submitted}
use Rattle.coord_ledger.proofs.Simulates.{simulates_handed}
use Rattle.coord_ledger.proofs.driver.Driver.submit.Goals as goal

pub returns-clause-simulates : goal.returns-clause-simulates
returns-clause-simulates g c =
    let l = c.self.inside.ledger in
    let new : DriverState g.row.D.Denot = record { ledger = c.hand_in.new.self; flight = c.self.inside.flight } in
    let own = (submitted l c.hand_in.new.self c.self.inside.flight c.args.step c.hand_in.result c.lemma_log_is_consistent.ensures.log c.self.invariant c.hand_in.ensures).own in
    subst (λ (d : DriverState g.row.D.Denot). Simulates d (Submit c.args.step) (answer_to c.hand_in.result) new) c.self.view_is
    (simulates_handed (record { ledger = l; flight = c.self.inside.flight }) c.hand_in.new.self c.args.step own c.hand_in.result c.hand_in.ensures)
