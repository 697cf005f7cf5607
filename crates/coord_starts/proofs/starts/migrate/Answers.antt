use Rattle.std.proofs.Common.{◌≡◌, true, Err, refl, sym, ap, ◌∙◌, subst}
use Rattle.coord_disk.specs.Model.Present.{IsImage}
use Rattle.coord_starts.specs.Runs.{StartsOnce}
use Rattle.coord_starts.specs.declared.starts.Task.TheVariants.{Migrate}
use Rattle.coord_starts.proofs.Runs.{migrated, not_migrated}
use Rattle.coord_starts.proofs.starts.migrate.Goals.{in-Ok, in-Err}
use Rattle.coord_starts.proofs.starts.migrate.Goals as goal

pub returns-clause-once : goal.returns-clause-once
returns-clause-once g c k =
    let m = g.D.Disk.model in
    let world = c.args.store.world in
    let new = c.migrate.new.self in
    let bytes = (m.present c.crash.result).read in
    let back = c.into_disk.ensures.disk in
    let keeps = c.migrate.ensures.runs.model ∙ k in
    let image = subst (λ d. IsImage (m.present d) bytes) back (c.crash.ensures.leaves.image (subst (λ d. m.keeps_model d ≡ true) (sym back) keeps)) in
    let gives = c.lemma_images_give_world.ensures.images keeps bytes image in
    elim c.match-migrate.branch [
      | in-Ok it ↦ subst (λ o. StartsOnce world Migrate o bytes) (sym it.outcome-is) (migrated world new bytes it.in-Ok.ensures.changes.world it.in-Ok.ensures.changes.going it.in-Ok.ensures.quiet gives)
      | in-Err it ↦ subst (λ o. StartsOnce world Migrate o bytes) (sym it.outcome-is)
          (not_migrated world c.args.store new bytes it.in-Err.fault refl c.requires.going it.in-Err.ensures.fault it.in-Err.ensures.unchanged (λ e. (it.in-Err.ensures.changes.same_world, it.in-Err.ensures.changes.torn (ap Err e))) gives)
    ]
