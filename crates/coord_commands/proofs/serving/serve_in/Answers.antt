use Rattle.std.proofs.Common.{inl, inr, refl}
use Rattle.coord_commands.proofs.Endings.{is_done, served}
use Rattle.coord_commands.specs.Serving.{EndsServing}
use Rattle.coord_commands.specs.declared.fault.Fault.TheVariants.{Usage}
use Rattle.coord_commands.proofs.serving.serve_in.Goals as goal

pub returns-in_default-clause-served : goal.returns-in_default-clause-served
returns-in_default-clause-served g c =
    rw (← c.streams.view_is) (inr (record { fault = Usage; possible = inl (refl, λ is. c.in_default.ensures.none is.0 is.1); number = c.report.ensures.status; answered = c.report.ensures.answered }))

pub returns-clause-served : goal.returns-clause-served
returns-clause-served g c =
    let before = g.F.Folder.holds c.args.folder.now c.args.file.now in
    let after = g.F.Folder.holds c.serve_at.new.folder c.args.file.now in
    rw (← c.streams.view_is)
    (served (EndsServing g.F.Disk.Disk.model before after (g.W.Write.contents c.streams.inside.output) (g.W.Write.contents c.serve_at.new.output)) g.F.Disk.Disk.model c.args.address.now before after (g.W.Write.contents c.streams.inside.output) (g.W.Write.contents c.serve_at.new.output) c.serve_at.result c.report-2.result (g.E.Write.contents c.streams.inside.errors) (g.E.Write.contents c.report-2.new.errors) (c.in-Some.place, c.in-Some.ensures.some) c.report-2.ensures.status c.report-2.ensures.answered c.serve_at.ensures.served c.serve_at.ensures.fault)

pub returns-clause-closed : goal.returns-clause-closed
returns-clause-closed g c = rw (← c.streams.view_is) (λ zero. is_done _ c.serve_at.result (c.report-2.ensures.done zero) c.serve_at.ensures.served)

-- the argument is an address
pub returns-clause-usage : goal.returns-clause-usage
returns-clause-usage g c = λ none. absurd (none c.in-Some.place c.in-Some.ensures.some)
