use Rattle.std.proofs.Common.{IfErr, ap, ◌∙◌, subst}
use Rattle.coord_engine.specs.State.{based_on}
use Rattle.coord_server.specs.Ending.{EndsUnopened}
use Rattle.coord_server.proofs.Begins.{begins, ends_unopened}
use Rattle.coord_server.proofs.threads.serve_clients.Goals as goal

pub serve_until_old-requires : goal.serve_until_old-requires
serve_until_old-requires g c =
    let again = c.resend.ensures.answered in
    begins c.resend.new.self (again.3 ∙ ap (λ d. d.notes) c.requires.new) (again.4 ∙ ap (λ d. d.seen) c.requires.new) (again.5 ∙ ap (λ d. d.read) c.requires.new)

-- the output could not be opened
pub returns-in-Err-clause-served : goal.returns-in-Err-clause-served
returns-in-Err-clause-served g c =
    let b = based_on g.D.Disk.model g.L.Origin.base g.L.Origin.before in
    let v = c.args.callers.now in
    let unopened : EndsUnopened g.C.Callers.failed v c.in-Err.end = subst (λ r. IfErr r (EndsUnopened g.C.Callers.failed v)) c.in-Err.is c.requires.start in
    (c.args.desk.now.port, ends_unopened b g.C.Callers.talked g.C.Callers.failed c.args.setting.now.instance_steps v c.args.desk.now c.in-Err.end unopened (g.met.C.Callers.at_rest v) c.requires.new)

-- what may have been lost was not sent again
pub returns-in_default-resend-clause-served : goal.returns-in_default-resend-clause-served
returns-in_default-resend-clause-served g c =
    let again = c.resend.ensures.answered in (
      c.resend.new.self.port,
      (
        g.met.C.Callers.at_rest c.args.callers.now,
        begins c.resend.new.self (again.3 ∙ ap (λ d. d.notes) c.requires.new) (again.4 ∙ ap (λ d. d.seen) c.requires.new) (again.5 ∙ ap (λ d. d.read) c.requires.new),
      ),
    )
