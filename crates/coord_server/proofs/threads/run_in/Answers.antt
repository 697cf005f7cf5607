use Rattle.std.proofs.Common.{rules}
use Rattle.coord_engine.specs.State.{based_on}
use Rattle.coord_server.proofs.Ends.{has_run}
use Rattle.coord_server.proofs.threads.run_in.Goals as goal

pub returns-clause-completed : goal.returns-clause-completed
returns-clause-completed g c =
    has_run (based_on g.D.Disk.model g.L.Origin.base g.L.Origin.before) g.C.Callers.talked g.C.Callers.failed c.args.setting.now.instance_steps g.L.Origin.history g.L.Origin.earlier _ c.args.callers _ _ _ _ c.all_joined.result.items c.serve_over-own.ensures c.all_joined.ensures.added (search rules)
