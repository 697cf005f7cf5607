use Rattle.std.proofs.Common.{◌∙◌, sym, subst}
use Rattle.coord_starts.specs.Runs.{StartsOnce}
use Rattle.coord_starts.specs.declared.starts.Task.TheVariants.{Migrate}
use Rattle.coord_starts.proofs.Runs.{starts_serving}
use Rattle.coord_starts.proofs.starts.start.Goals as goal

pub returns-in-Ok-serve-clause-once : goal.returns-in-Ok-serve-clause-once
returns-in-Ok-serve-clause-once g c w k gives =
    starts_serving w c.in-Ok.store.world c.args.task.now c.in-Serve.events c.deref.result.now c.in-Ok-serve.trace (g.D.Disk.model.present c.in-Ok-serve.disk).read (c.in-Ok.ensures.only w k gives) c.in-Serve.is c.deref.ensures.value
    (c.in-Ok-serve.ensures.once (c.in-Ok.ensures.runs.model ∙ k))

pub returns-in-Migrate-clause-once : goal.returns-in-Migrate-clause-once
returns-in-Migrate-clause-once g c w k gives =
    let bytes = (g.D.Disk.model.present c.migrate.result.1).read in
    subst (λ t. StartsOnce w t c.migrate.result.0 bytes) (sym c.in-Migrate.is) (subst (λ v. StartsOnce v Migrate c.migrate.result.0 bytes) (c.in-Ok.ensures.only w k gives) (c.migrate.ensures.once (c.in-Ok.ensures.runs.model ∙ k)))
