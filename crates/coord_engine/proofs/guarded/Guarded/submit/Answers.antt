use Rattle.std.proofs.Common.{◌≡◌, ◌++◌, ◌∷◌, [], false, true, Ok, Err, refl, ap, sym, ◌∙◌, subst, inl, rules}
use Rattle.std.proofs.lemmas.Result.{err_from_is_err_and}
use Rattle.coord_ledger.specs.Facade.{HandedTo}
use Rattle.coord_engine.specs.Calls.{engine_verdict, note_of}
use Rattle.coord_engine.proofs.Submitting.{accepted_step, no_memory, refused_step, repeated_step}
use Rattle.coord_engine.proofs.guarded.Guarded.submit.Goals as goal

pub returns-then-is_err-clause-answer : goal.returns-then-is_err-clause-answer
returns-then-is_err-clause-answer g c =
    let kept : c.reserve.new.self.items ≡ c.args.mine.now = search rules in
    rw kept (no_memory c.args.step (engine_verdict c.args.self.now c.args.step) _)

pub returns-then-self-clause-answer : goal.returns-then-self-clause-answer
returns-then-self-clause-answer g c =
    let kept : c.reserve.new.self.items ≡ c.args.mine.now = search rules in
    let finishing : c.args.self.now.finishing ≡ true = search rules in
    rw kept (rw finishing (inl refl, refl))

pub returns-in_err-ticket-clause-answer : goal.returns-in_err-ticket-clause-answer
returns-in_err-ticket-clause-answer g c =
    let kept : c.reserve.new.self.items ≡ c.args.mine.now = search rules in
    let going : c.args.self.now.finishing ≡ false = search rules in
    let same : c.self.inside.ledger ≡ c.args.self.now.ledger = search rules in
    let failed = err_from_is_err_and c.from_residual.result c.from_residual.ensures.1 in
    rw kept (rw (failed.1 ∙ ap Err failed.2) (rw going (refused_step c.args.step c.args.self.now.ledger c.hand_in.new.self _ c.args.mine.now (rw (sym same) c.in_err-ticket.ensures))))

pub returns-in-Accepted-clause-answer : goal.returns-in-Accepted-clause-answer
returns-in-Accepted-clause-answer g c =
    let claim = c.in-Accepted.ticket in
    let noted : c.push_reserved.new.self.items ≡ c.args.mine.now ++ note_of claim ∷ [] = search rules in
    let going : c.args.self.now.finishing ≡ false = search rules in
    let same : c.self.inside.ledger ≡ c.args.self.now.ledger = search rules in
    let accepted = subst (λ h. HandedTo c.self.inside.ledger c.args.step (Ok h) c.hand_in.new.self) c.in-Accepted.is c.in_ok-ticket.ensures in
    rw noted (rw going (accepted_step c.args.step c.args.self.now.ledger c.hand_in.new.self claim c.args.mine.now (rw (sym same) accepted)))

pub returns-in-Repeated-clause-answer : goal.returns-in-Repeated-clause-answer
returns-in-Repeated-clause-answer g c =
    let kept : c.reserve.new.self.items ≡ c.args.mine.now = search rules in
    let going : c.args.self.now.finishing ≡ false = search rules in
    let same : c.self.inside.ledger ≡ c.args.self.now.ledger = search rules in
    let repeated = subst (λ h. HandedTo c.self.inside.ledger c.args.step (Ok h) c.hand_in.new.self) c.in-Repeated.is c.in_ok-ticket.ensures in
    rw kept (rw going (repeated_step c.args.step c.args.self.now.ledger c.hand_in.new.self c.in-Repeated.ticket c.args.mine.now (rw (sym same) repeated)))
