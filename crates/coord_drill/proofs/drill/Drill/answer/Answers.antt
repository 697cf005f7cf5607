use Rattle.std.proofs.Common.{◌≡◌, sym, ap, ◌∙◌}
use Rattle.coord_ledger.specs.Facade.{LedgerState, front_world}
use Rattle.coord_drill.specs.Facade.{asked, front_of}
use Rattle.coord_drill.proofs.drill.Drill.answer.Goals as goal

pub returns-clause-reported : goal.returns-clause-reported
returns-clause-reported g c =
    let wants : c.wanted_by-wanted.result ≡ asked (front_of c.args.self) c.args.request.now = c.wanted_by-wanted.ensures ∙ ap (λ w. asked w c.args.request.now) (c.front.ensures ∙ ap (λ (l : LedgerState g.row.D.Denot). front_world l.log) c.ledger.ensures) in
    rw (sym wants) c.carry_out.ensures.reported

pub returns-clause-cut : goal.returns-clause-cut
returns-clause-cut g c =
    let wants : c.wanted_by-wanted.result ≡ asked (front_of c.args.self) c.args.request.now = c.wanted_by-wanted.ensures ∙ ap (λ w. asked w c.args.request.now) (c.front.ensures ∙ ap (λ (l : LedgerState g.row.D.Denot). front_world l.log) c.ledger.ensures) in
    rw (sym wants) c.carry_out.ensures.cut

pub returns-clause-fault : goal.returns-clause-fault
returns-clause-fault g c =
    let wants : c.wanted_by-wanted.result ≡ asked (front_of c.args.self) c.args.request.now = c.wanted_by-wanted.ensures ∙ ap (λ w. asked w c.args.request.now) (c.front.ensures ∙ ap (λ (l : LedgerState g.row.D.Denot). front_world l.log) c.ledger.ensures) in
    rw (sym wants) c.carry_out.ensures.fault
