use Rattle.std.proofs.Common.{◌≢◌, ⊎_elim, rules, ap, ◌∙◌}
use Rattle.coord_store.specs.Facade.{Kept}
use Rattle.coord_store.specs.declared.faults.StoreFault.TheVariants.{OutOfMemory}
use Rattle.coord_store.proofs.Exclusion.{unstopped}
use Rattle.coord_store.proofs.store.Store.takes.Goals as goal

pub returns : goal.returns
returns g c =
    let steps = c.args.steps.now in
    let next = c.in_ok-next.next in
    let same = c.in_ok-next.ensures ∙ ap (λ (k : Kept g.row.D.Denot). k.world) c.self.view_is in
    let other : c.in-Err.fault ≢ OutOfMemory = search rules in
    (λ t. absurd cc, λ all. absurd (⊎_elim other (λ s. unstopped next steps s.0 s.2 (rw same all)) c.in-Err.ensures.fault))
