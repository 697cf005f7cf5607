use Rattle.std.proofs.Common.{rules}
use Rattle.coord_engine.specs.State.{based_on}
use Rattle.coord_server.proofs.Ends.{lived, unbegun}
use Rattle.coord_server.proofs.instance.serve_ledger.Goals as goal

pub returns-in-Ok-clause-instance : goal.returns-in-Ok-clause-instance
returns-in-Ok-clause-instance g c =
    let b = based_on g.D.Disk.model g.L.Origin.base g.L.Origin.before in
    let completed = c.in-Ok.completed in
    lived b g.C.Callers.talked g.C.Callers.failed c.args.setting.now.instance_steps g.L.Origin.history g.L.Origin.earlier completed.reader c.args.callers completed.callers completed.left completed.shares.items completed.seen _ c.requires.before.1 c.in-Ok.ensures.completed (search rules) (search rules) c.retired.ensures.written c.retired.ensures.begins

pub returns-in_default-clause-instance : goal.returns-in_default-clause-instance
returns-in_default-clause-instance g c =
    let b = based_on g.D.Disk.model g.L.Origin.base g.L.Origin.before in
    unbegun b g.C.Callers.talked g.C.Callers.failed c.args.setting.now.instance_steps c.args.setting.now.port c.args.callers _ (g.met.C.Callers.at_rest c.args.callers) (search rules) (search rules) (search rules)

pub returns-in-Err-clause-instance : goal.returns-in-Err-clause-instance
returns-in-Err-clause-instance g c =
    let b = based_on g.D.Disk.model g.L.Origin.base g.L.Origin.before in
    unbegun b g.C.Callers.talked g.C.Callers.failed c.args.setting.now.instance_steps c.args.setting.now.port c.args.callers _ (g.met.C.Callers.at_rest c.args.callers) (search rules) (search rules) (search rules)
