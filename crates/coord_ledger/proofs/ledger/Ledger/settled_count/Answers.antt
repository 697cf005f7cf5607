use Rattle.std.proofs.Common.{ap, ◌∙◌}
use Rattle.coord_ledger.specs.Facade.{LedgerState, settled_count}
use Rattle.coord_ledger.proofs.follows.Kept.{counts_settled}
use Rattle.coord_ledger.proofs.ledger.Ledger.settled_count.Goals as goal

pub returns-clause-value : goal.returns-clause-value
returns-clause-value g c = c.count.ensures ∙ counts_settled _ _ _ _ _ _ _ c.self.invariant ∙ ap (λ (l : LedgerState g.row.D.Denot). settled_count l.log) c.self.view_is
