use Rattle.std.proofs.Common.{◌∷◌, ◌++◌, [], Some, Ok, ap, ◌∙◌, subst}
use Rattle.coord_ledger.specs.Facade.{HandedTo, Simulates, Submit, answer_to}
use Rattle.coord_ledger.proofs.follows.FollowsAnswers.{follows_accepted, follows_refused, follows_repeated}
use Rattle.coord_ledger.proofs.event_driver.run.Run.submit.Goals as goal

pub returns-in-Ok-Accepted-clause-answered : goal.returns-in-Ok-Accepted-clause-answered
returns-in-Ok-Accepted-clause-answered g c s is follows =
    let run = c.args.self.now in
    let t = c.in-Ok-Accepted.ticket in
    let given = c.in-Ok-Accepted.is ∙ ap Ok c.in-Ok-Accepted.field-0-is in
    let pushed = c.push_reserved.ensures.items ∙ ap (λ l. l ++ Some t ∷ []) c.reserve.ensures.items in
    let handed = subst (λ r. HandedTo run.driver.ledger c.args.step r c.submit.new.self.ledger) given c.submit.ensures.handed in
    let simulates = subst (λ r. Simulates run.driver (Submit c.args.step) (answer_to r) c.submit.new.self) given c.submit.ensures.simulates in
    rw c.step-number.ensures
    (follows_accepted run s is follows c.submit.new.self c.args.step t c.push_reserved.new.self pushed handed simulates)

pub returns-in-Ok-Repeated-clause-answered : goal.returns-in-Ok-Repeated-clause-answered
returns-in-Ok-Repeated-clause-answered g c s is follows =
    let run = c.args.self.now in
    let t = c.in-Ok-Repeated.ticket in
    let given = c.in-Ok-Repeated.is ∙ ap Ok c.in-Ok-Repeated.field-0-is in
    let pushed = c.push_reserved-in-Ok-Repeated.ensures.items ∙ ap (λ l. l ++ Some t ∷ []) c.reserve.ensures.items in
    let handed = subst (λ r. HandedTo run.driver.ledger c.args.step r c.submit.new.self.ledger) given c.submit.ensures.handed in
    let simulates = subst (λ r. Simulates run.driver (Submit c.args.step) (answer_to r) c.submit.new.self) given c.submit.ensures.simulates in
    rw c.step-number-in-Ok-Repeated.ensures
    (follows_repeated run s is follows c.submit.new.self c.args.step t c.push_reserved-in-Ok-Repeated.new.self pushed handed simulates)

pub returns-in-Err-clause-answered : goal.returns-in-Err-clause-answered
returns-in-Err-clause-answered g c s is follows =
    let run = c.args.self.now in
    let handed = subst (λ r. HandedTo run.driver.ledger c.args.step r c.submit.new.self.ledger) c.in-Err.is c.submit.ensures.handed in
    let simulates = subst (λ r. Simulates run.driver (Submit c.args.step) (answer_to r) c.submit.new.self) c.in-Err.is c.submit.ensures.simulates in
    follows_refused run s is follows c.submit.new.self c.args.step c.in-Err.refusal c.reserve.new.self c.reserve.ensures.items handed simulates
