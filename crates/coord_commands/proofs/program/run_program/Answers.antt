use Rattle.std.proofs.Common.{inl}
use Rattle.coord_commands.proofs.RefusedArguments.{its_fault, lacks, on_err, on_ok}
use Rattle.coord_commands.specs.declared.fault.Fault.TheVariants.{OutOfMemory}
use Rattle.coord_commands.proofs.program.run_program.Goals as goal

pub returns-clause-had : goal.returns-clause-had
returns-clause-had g c =
    rw (← c.streams.view_is)
    (on_ok c.args.arguments _ _
    (λ arguments is. inl (lacks c.in-Err.fault OutOfMemory c.report.result (g.R.Read.remaining c.streams.inside.input) (g.W.Write.contents c.streams.inside.output) (g.E.Write.contents c.streams.inside.errors) (g.E.Write.contents c.report.new.errors) is c.report.ensures.status c.report.ensures.answered))
    c.in-Err.ensures.memory)

pub returns-clause-memory : goal.returns-clause-memory
returns-clause-memory g c =
    rw (← c.streams.view_is)
    (on_err c.args.arguments _ _
    (λ error is kind. lacks c.in-Err.fault OutOfMemory c.report.result (g.R.Read.remaining c.streams.inside.input) (g.W.Write.contents c.streams.inside.output) (g.E.Write.contents c.streams.inside.errors) (g.E.Write.contents c.report.new.errors) (its_fault c.in-Err.fault OutOfMemory (is kind)) c.report.ensures.status c.report.ensures.answered)
    c.in-Err.ensures.missing)
