use Rattle.std.proofs.Common.{inl, inr, refl}
use Rattle.std.proofs.KnownBytes.{Keeps-refl}
use Rattle.coord_commands.proofs.inspection.check_in.Goals as goal

pub returns-in-Ok-true-clause-ended : goal.returns-in-Ok-true-clause-ended
returns-in-Ok-true-clause-ended g c = rw (← c.streams.view_is) (inl (record { number = refl; printed = c.in-Ok-true.ensures.legal c.in-Ok-true.field-0-test; silent = Keeps-refl _ }))

pub returns-in-Ok-false-clause-ended : goal.returns-in-Ok-false-clause-ended
returns-in-Ok-false-clause-ended g c = rw (← c.streams.view_is) (inr (inl (record { number = refl; printed = c.in-Ok-false.ensures.violated c.in-Ok-false.field-0-test; silent = Keeps-refl _ })))

pub returns-in-Err-clause-ended : goal.returns-in-Err-clause-ended
returns-in-Err-clause-ended g c =
    rw (← c.streams.view_is)
    (inr (inr (record { fault = c.in-Err.fault; possible = c.in-Err.ensures.fault; number = c.report.ensures.status; answered = c.report.ensures.answered; cut = c.in-Err.ensures.cut })))
