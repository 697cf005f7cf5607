use Rattle.std.proofs.Common.{Ok, refl, ap, ◌∙◌, subst}
use Rattle.coord_drill.specs.Facade.{Finished}
use Rattle.coord_ledger.specs.declared.events.Event.TheVariants.{Finish}
use Rattle.coord_ledger.specs.Facade.{Simulates, finish_answer, settled_count}
use Rattle.coord_drill.proofs.does.Moments.{leads_aside}
use Rattle.coord_drill.proofs.drill.flying.take_back.Goals as goal

pub returns-in-Ok-Some-clause-released : goal.returns-in-Ok-Some-clause-released
returns-in-Ok-Some-clause-released g c = c.finish-landed.ensures.released c.in-Ok-Some.releases (c.in-Ok-Some.is ∙ ap Ok c.in-Ok-Some.field-0-is)

pub returns-in-Ok-Some-clause-moments : goal.returns-in-Ok-Some-clause-moments
returns-in-Ok-Some-clause-moments g c =
    let new = c.finish-landed.new.self in
    leads_aside g.D.Disk.model g.D.CrashDisk.crashes c.args.driver new Finish (Finished (settled_count new.ledger.log)) tt c.lemma_survives.ensures c.lemma_survives-in-Ok-Some.ensures g.met.D.Disk.laws refl (λ s. refl) refl c.finish-landed.ensures.disk
    (subst (λ r. Simulates c.args.driver Finish (finish_answer r new) new) (c.in-Ok-Some.is ∙ ap Ok c.in-Ok-Some.field-0-is) c.finish-landed.ensures.simulates)
