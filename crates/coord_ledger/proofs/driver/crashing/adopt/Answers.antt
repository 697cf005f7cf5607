use Rattle.std.proofs.Common.{ap, ◌∙◌}
use Rattle.coord_store.specs.Kept.{Kept}
use Rattle.coord_ledger.proofs.driver.crashing.adopt.Goals as goal

pub returns-in-Err-clause-back : goal.returns-in-Err-clause-back
returns-in-Err-clause-back g c = c.into_disk.ensures.disk ∙ ap (λ (k : Kept g.row.D.Denot). k.disk) c.in-Err.ensures.back
