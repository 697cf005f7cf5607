use Rattle.std.proofs.Common.{Ok, Err, refl, subst}
use Rattle.coord_engine.specs.State.{based_on}
use Rattle.coord_engine.specs.Threads.{AtSomeMoment, Submits}
use Rattle.coord_engine.proofs.Moments.{then}
use Rattle.coord_engine.proofs.working.submit.Goals as goal

pub returns-in-Ok : goal.returns-in-Ok
returns-in-Ok g c =
    let b = based_on g.D.Disk.model g.L.Origin.base g.L.Origin.before in
    let moment = then b c.args.guarded.now c.keeps.ensures (Submits {D = g.row.D.Denot} c.step_of.result (Ok c.in-Ok.ticket) c.args.share.now c.submit.new.mine) (c.submit.new.self.ledger, c.in-Ok.ensures.answer) in
    record {
      answer = Ok c.in-Ok.ticket;
      submits = subst (λ s. AtSomeMoment b (Submits {D = g.row.D.Denot} s (Ok c.in-Ok.ticket) c.args.share.now c.submit.new.mine)) c.step_of.ensures moment;
      follows = refl;
    }

pub returns-in-Err : goal.returns-in-Err
returns-in-Err g c =
    let b = based_on g.D.Disk.model g.L.Origin.base g.L.Origin.before in
    let moment = then b c.args.guarded.now c.keeps.ensures (Submits {D = g.row.D.Denot} c.step_of.result (Err c.in-Err.refusal) c.args.share.now c.submit.new.mine) (c.submit.new.self.ledger, c.in-Err.ensures.answer) in
    record {
      answer = Err c.in-Err.refusal;
      submits = subst (λ s. AtSomeMoment b (Submits {D = g.row.D.Denot} s (Err c.in-Err.refusal) c.args.share.now c.submit.new.mine)) c.step_of.ensures moment;
      follows = c.has_to_wait.ensures;
    }
