use Rattle.std.proofs.Common.{◌≡◌, inl, inr, refl, subst}
use Rattle.std.proofs.KnownBytes.{Keeps-refl}
use Rattle.coord_lines.specs.Written.{WritesFirstPart}
use Rattle.coord_commands.specs.Faults.{fault_line, fault_status}
use Rattle.coord_commands.specs.declared.fault.Fault.{Fault}
use Rattle.coord_commands.proofs.running.drill.Goals as goal

pub returns-in-Ok : goal.returns-in-Ok
returns-in-Ok g c = rw (← c.streams.view_is) (inl (record { number = refl; drilled = c.in-Ok.ensures.ended; end = c.in-Ok.ensures.end; silent = Keeps-refl _ }))

pub returns-in-Err : goal.returns-in-Err
returns-in-Err g c =
    rw (← c.streams.view_is)
    (inr
    (record {
      fault = c.in-Err.fault;
      number = subst (λ (f : Fault). c.report.result ≡ fault_status f) c.from.ensures c.report.ensures.status;
      answered = subst (λ (f : Fault). WritesFirstPart (g.E.Write.contents c.streams.inside.errors) (g.E.Write.contents c.report.new.errors) (fault_line f)) c.from.ensures c.report.ensures.answered;
      broke = c.in-Err.ensures.broke;
    }))
