use Rattle.std.proofs.Common.{rules, subst}
use Rattle.coord_admin.specs.Connections.{ServedOpen, ServedToClose}
use Rattle.coord_engine.specs.State.{based_on}
use Rattle.coord_server.specs.EngineDesk.{DeskAnswers, DeskKeeps}
use Rattle.coord_server.proofs.threads.serve_until_old.Goals as goal

pub returns-in-Ok-Closed : goal.returns-in-Ok-Closed
returns-in-Ok-Closed g c =
    let b = based_on g.D.Disk.model g.L.Origin.base g.L.Origin.before in
    let after = c.serve_connections.new in
    subst (λ d. ServedToClose (DeskAnswers b) (DeskKeeps b) c.args.setting.now.instance_steps g.C.Callers.talked c.args.callers.now d after.callers after.desk) c.requires (c.serve_connections.ensures.closed (search rules))

pub returns-in-Ok-Old : goal.returns-in-Ok-Old
returns-in-Ok-Old g c =
    let b = based_on g.D.Disk.model g.L.Origin.base g.L.Origin.before in
    let after = c.serve_connections.new in
    let old = c.serve_connections.ensures.old (search rules) in
    (subst (λ d. ServedOpen (DeskAnswers b) (DeskKeeps b) c.args.setting.now.instance_steps g.C.Callers.talked c.args.callers.now d after.callers after.desk) c.requires old.0, old.1)

pub returns-in-Err : goal.returns-in-Err
returns-in-Err g c =
    let b = based_on g.D.Disk.model g.L.Origin.base g.L.Origin.before in
    let after = c.serve_connections.new in
    let failed = c.in-Err.ensures.failed in
    (failed.0, subst (λ d. ServedOpen (DeskAnswers b) (DeskKeeps b) c.args.setting.now.instance_steps g.C.Callers.talked c.args.callers.now d failed.0 after.desk) c.requires failed.1, failed.2)
