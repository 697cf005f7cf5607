use Rattle.std.proofs.Common.{◌≡◌, ◌<◌, sym, subst, ◌∙◌}
use Rattle.std.proofs.lemmas.Option.{IfSome_then}
use Rattle.coord_engine.specs.State.{based_on, CanHold, most_shares}
use Rattle.coord_engine.proofs.Moments.{on_none, then}
use Rattle.coord_engine.proofs.engine.Engine.share.Goals as goal

pub returns-clause-given : goal.returns-clause-given
returns-clause-given g c =
    let b = based_on g.D.Disk.model g.L.Origin.base g.L.Origin.before in
    let is = subst (CanHold b) (c.deref.ensures ∙ sym c.deref_mut.ensures.value) c.keeps.ensures in
    IfSome_then c.share.result c.share.ensures.some (λ share so. (so.0, then b c.deref_mut.result.now is (λ x. x.given < most_shares) so.1))

pub returns-clause-none : goal.returns-clause-none
returns-clause-none g c =
    let b = based_on g.D.Disk.model g.L.Origin.base g.L.Origin.before in
    let is = subst (CanHold b) (c.deref.ensures ∙ sym c.deref_mut.ensures.value) c.keeps.ensures in
    on_none b c.deref_mut.result.now is c.share.result (λ x. (x.given ≡ most_shares) × (c.share.new.self ≡ x)) (λ x. x.given ≡ most_shares) (λ so. so.0) c.share.ensures.none
