use Rattle.std.proofs.Common.{sym, subst, ◌∙◌}
use Rattle.coord_engine.specs.State.{based_on, CanHold}
use Rattle.coord_engine.specs.Threads.{Submits}
use Rattle.coord_engine.proofs.Moments.{then}
use Rattle.coord_engine.proofs.engine.Engine.submit.Goals as goal

pub returns : goal.returns
returns g c =
    let b = based_on g.D.Disk.model g.L.Origin.base g.L.Origin.before in
    let is = subst (CanHold b) (c.deref.ensures ∙ sym c.deref_mut.ensures.value) c.keeps.ensures in
    then b c.deref_mut.result.now is (Submits c.args.step c.submit-answer.result c.args.mine.now c.submit-answer.new.mine) (c.submit-answer.new.self.ledger, c.submit-answer.ensures.answer)
