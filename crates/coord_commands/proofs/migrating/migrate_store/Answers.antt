use Rattle.std.proofs.Common.{Result, Ok, Err, IfErr, inl}
use Rattle.coord_disk.proofs.MomentLemmas.{weaker}
use Rattle.coord_commands.proofs.migrating.migrate_store.Goals as goal

-- without memory for the line, nothing is done
pub returns-in_err-line-clause-any_moment : goal.returns-in_err-line-clause-any_moment
returns-in_err-line-clause-any_moment g c k none =
    let s = c.args.store.now in
    weaker g.D.Disk.model s.disk s.disk _ _ (c.lemma_images_give_world.ensures.still k none) (λ bytes gives. inl gives)

whatever : {A E X : Type 0} (r : Result A E) (P : E → Type 0) → X → IfErr r (λ e. P e → X)
whatever (Ok a) P x = tt
whatever (Err e) P x = λ _. x

pub returns-in_err-line-clause-any_moment_refused : goal.returns-in_err-line-clause-any_moment_refused
returns-in_err-line-clause-any_moment_refused g c k none = whatever c.from_residual.result _ (c.lemma_images_give_world.ensures.still k none)
