use Rattle.std.proofs.Common.{◌∙◌, sym, ap, subst, arith}
use Rattle.coord_engine.specs.MonotoneLog.{Beginning, StartsWith}
use Rattle.coord_engine.proofs.Histories.{writes}
use Rattle.coord_engine.proofs.history.LogAuthority.write_as.Goals as goal

pub load-requires : goal.load-requires
load-requires g c =
    let token = c.self.inside.token in
    let on : StartsWith g.G.NamedSteps.steps token.me.0.read = subst (λ (b : Beginning). StartsWith g.G.NamedSteps.steps b.steps) (sym c.self.view_is) c.requires.on in
    rw c.deref.ensures (ap (λ (b : Beginning). b.history) c.self.view_is ∙ sym c.requires.here ∙ sym c.history.view_is, omega (arith, c.history.invariant), writes _ token.id token.me g.G.NamedSteps.steps c.self.invariant.0 on)
