use Rattle.std.proofs.Common.{◌++◌, length, sym, ap, ◌∙◌}
use Rattle.std.proofs.lemmas.List.{append_assoc}
use Rattle.coord_ledger.specs.Facade.{LedgerState, Resend, resent, settled_world}
use Rattle.coord_ledger.proofs.runs.BreaksOff.{cut_within}
use Rattle.coord_ledger.proofs.follows.FollowsTickets.{follows_resent, resent_releases}
use Rattle.coord_ledger.proofs.runs.Answers.{on_err, resent_count}
use Rattle.coord_ledger.proofs.event_driver.run.Run.resend.Goals as goal

pub returns-in_ok-count-in-Ok-clause-answered : goal.returns-in_ok-count-in-Ok-clause-answered
returns-in_ok-count-in-Ok-clause-answered g c s is follows =
    let run = c.args.self.now in
    let given = c.in-Ok.ensures ∙ ap (λ (l : LedgerState g.row.D.Denot). resent (settled_world l.log)) c.ledger.ensures in
    let all = c.in_ok-count-in-Ok.ensures.all ∙ ap (λ l. run.released.items ++ l) given in
    let count = c.in_ok-count-in-Ok.ensures.count ∙ ap length given ∙ resent_count (settled_world run.driver.ledger.log) in
    rw count (follows_resent run s is follows c.push_releases.new.released all)

pub returns-in_err-count-in-Ok-clause-cut : goal.returns-in_err-count-in-Ok-clause-cut
returns-in_err-count-in-Ok-clause-cut g c s is follows =
    let run = c.args.self.now in
    let given = c.in-Ok.ensures ∙ ap (λ (l : LedgerState g.row.D.Denot). resent (settled_world l.log)) c.ledger.ensures in
    let some = c.in_err-count-in-Ok.ensures.some in
    let may = resent_releases run s is follows in
    let ends = may.1 ∙ ap (λ l. run.released.items ++ l) (sym given ∙ some.all_are) ∙ sym (append_assoc run.released.items some.added some.lost) ∙ ap (λ l. l ++ some.lost) (sym some.now) in
    on_err c.from_residual.result (cut_within run s Resend _ c.push_releases.new.released.items some.added some.lost follows may.0 some.now ends some.some)
