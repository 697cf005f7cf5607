use Rattle.std.proofs.Common.{List, ◌++◌, Ok, Result, Option, refl, sym, ap, ◌∙◌, subst}
use Rattle.std.proofs.lemmas.List.{append_assoc}
use Rattle.coord_ledger.specs.Facade.{Finish, Finished, LedgerState, NoFlight, Refusal, Refused, Release, Simulates, finish_answer, settled_count}
use Rattle.coord_ledger.proofs.runs.Answers.{on_err}
use Rattle.coord_ledger.proofs.runs.BreaksOff.{cut_within}
use Rattle.coord_ledger.proofs.follows.FollowsAnswers.{follows_landed, follows_not_landed, landed_releases}
use Rattle.coord_ledger.proofs.event_driver.run.Run.finish.Goals as goal

pub returns-in-Ok-None-clause-answered : goal.returns-in-Ok-None-clause-answered
returns-in-Ok-None-clause-answered g c s is follows =
    let new = c.finish.new.self in
    let simulates = subst (λ (q : Result (Option (List Release)) Refusal). Simulates c.args.self.now.driver Finish (finish_answer q new) new) (c.in-Ok-None.is ∙ ap Ok c.in-Ok-None.field-0-is) c.finish.ensures.simulates in
    follows_not_landed c.args.self.now s is follows new NoFlight (λ t. refl) simulates

pub returns-in-Err-clause-answered : goal.returns-in-Err-clause-answered
returns-in-Err-clause-answered g c s is follows =
    let new = c.finish.new.self in
    let simulates = subst (λ (q : Result (Option (List Release)) Refusal). Simulates c.args.self.now.driver Finish (finish_answer q new) new) c.in-Err.is c.finish.ensures.simulates in
    follows_not_landed c.args.self.now s is follows new (Refused c.in-Err.refusal) (λ t. refl) simulates

pub returns-in_ok-push_releases-in-Ok-Some-clause-answered : goal.returns-in_ok-push_releases-in-Ok-Some-clause-answered
returns-in_ok-push_releases-in-Ok-Some-clause-answered g c s is follows =
    let run = c.args.self.now in
    let new = c.finish.new.self in
    let back = c.in-Ok-Some.is ∙ ap Ok c.in-Ok-Some.field-0-is in
    let simulates = subst (λ (q : Result (Option (List Release)) Refusal). Simulates run.driver Finish (finish_answer q new) new) back c.finish.ensures.simulates in
    let count = c.settled_count.ensures.value ∙ ap (λ (l : LedgerState g.row.D.Denot). settled_count l.log) c.ledger.ensures in
    rw count (follows_landed run s is follows new c.in-Ok-Some.releases (c.finish.ensures.released c.in-Ok-Some.releases back) (settled_count new.ledger.log) simulates c.push_releases.new.released c.in_ok-push_releases-in-Ok-Some.ensures.all)

pub returns-in_err-push_releases-in-Ok-Some-clause-cut : goal.returns-in_err-push_releases-in-Ok-Some-clause-cut
returns-in_err-push_releases-in-Ok-Some-clause-cut g c s is follows =
    let run = c.args.self.now in
    let new = c.finish.new.self in
    let back = c.in-Ok-Some.is ∙ ap Ok c.in-Ok-Some.field-0-is in
    let simulates = subst (λ (q : Result (Option (List Release)) Refusal). Simulates run.driver Finish (finish_answer q new) new) back c.finish.ensures.simulates in
    let count = settled_count new.ledger.log in
    let some = c.in_err-push_releases-in-Ok-Some.ensures.some in
    let may = landed_releases run s is follows new c.in-Ok-Some.releases (c.finish.ensures.released c.in-Ok-Some.releases back) count simulates in
    let ends = may.1 ∙ ap (λ l. run.released.items ++ l) some.all_are ∙ sym (append_assoc run.released.items some.added some.lost) ∙ ap (λ l. l ++ some.lost) (sym some.now) in
    on_err c.from_residual.result (cut_within run s Finish (Finished count) c.push_releases.new.released.items some.added some.lost follows may.0 some.now ends some.some)
