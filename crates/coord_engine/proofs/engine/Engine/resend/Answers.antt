use Rattle.std.proofs.Common.{sym, subst, ◌∙◌}
use Rattle.coord_engine.specs.Facade.{CanHold, SendsAgain, based_on}
use Rattle.coord_engine.proofs.Moments.{on_ok}
use Rattle.coord_engine.proofs.engine.Engine.resend.Goals as goal

pub returns : goal.returns
returns g c =
    let b = based_on g.D.Disk.model g.L.Origin.base g.L.Origin.before in
    let is = subst (CanHold b) (c.deref.ensures ∙ sym c.deref_mut.ensures.value) c.keeps.ensures in
    on_ok b c.deref_mut.result.now is c.resend.result SendsAgain c.resend.ensures.again
