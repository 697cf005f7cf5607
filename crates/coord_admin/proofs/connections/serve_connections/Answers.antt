use Rattle.std.proofs.Common.{[], sym, subst, ◌∙◌, refl, rules, IfSome}
use Rattle.coord_admin.specs.Connections.{Connection}
use Rattle.coord_admin.specs.InstanceLimit.{HasKeptFewer}
use Rattle.coord_admin.proofs.Served.{closed_on, open_on, open_still}
use Rattle.coord_admin.proofs.connections.serve_connections.Goals as goal

-- no one has called yet
pub loop-init : goal.loop-init
loop-init g c = (tt, tt, ([], g.met.C.Callers.at_rest _, refl))

pub returns-in_err-line-clause-open : goal.returns-in_err-line-clause-open
returns-in_err-line-clause-open g c =
    let left = open_still g.D.Desk.answers g.D.Desk.keeps c.args.most g.C.Callers.talked g.met.C.Callers.in_turn _ _ _ _ _ c.loop.invariant.2 c.in_err-line.ensures.none_ended in
    search rules

pub returns-then-has_closed-clause-closed : goal.returns-then-has_closed-clause-closed
returns-then-has_closed-clause-closed g c = λ _.
    let asked = subst (λ o. IfSome o (λ line. g.C.Callers.called c.loop.callers line c.next_in_instance.new.callers × HasKeptFewer g.D.Desk.keeps c.loop.desk c.args.most)) c.in-Some-2.is c.in_ok-line.ensures.begun in
    let now = c.serve_connection-ended.ensures.served c.loop.callers asked.0 in
    let last : Connection = record { talk = now.0; ended = c.serve_connection-ended.result } in
    closed_on g.D.Desk.answers g.D.Desk.keeps c.args.most g.C.Callers.talked g.met.C.Callers.in_turn _ _ _ _ _ _ last c.loop.invariant.2 now.1 now.2 (sym c.has_closed.ensures ∙ c.if-has_closed.true)

pub loop-preserved : goal.loop-preserved
loop-preserved g c =
    let asked = subst (λ o. IfSome o (λ line. g.C.Callers.called c.loop.callers line c.next_in_instance.new.callers × HasKeptFewer g.D.Desk.keeps c.loop.desk c.args.most)) c.in-Some-2.is c.in_ok-line.ensures.begun in
    let now = c.serve_connection-ended.ensures.served c.loop.callers asked.0 in
    let last : Connection = record { talk = now.0; ended = c.serve_connection-ended.result } in (
      tt,
      tt,
      open_on g.D.Desk.answers g.D.Desk.keeps c.args.most g.C.Callers.talked g.met.C.Callers.in_turn _ _ _ _ _ _ last c.loop.invariant.2 now.1 now.2 (sym c.has_closed.ensures ∙ c.if-has_closed.false),
    )
