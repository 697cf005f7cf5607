use Rattle.std.proofs.Common.{ap, ◌∙◌}
use Rattle.coord_ledger.specs.Facade.{LedgerState, accepted_count}
use Rattle.coord_ledger.proofs.follows.Kept.{counts_front}
use Rattle.coord_ledger.proofs.ledger.Ledger.accepted_count.Goals as goal

pub returns-clause-value : goal.returns-clause-value
returns-clause-value g c = c.count.ensures ∙ counts_front _ _ _ _ _ _ _ c.self.invariant ∙ ap (λ (l : LedgerState g.row.D.Denot). accepted_count l.log) c.self.view_is
