use Rattle.std.proofs.Common.{rules}
use Rattle.coord_engine.specs.State.{based_on}
use Rattle.coord_server.specs.declared.instance.Instance.{Instance}
use Rattle.coord_server.proofs.Ends.{leaves_shares}
use Rattle.coord_server.proofs.instance.retired.Goals as goal

pub returns-clause-left : goal.returns-clause-left
returns-clause-left g c =
    let completed = c.args.completed in
    let left = c.retire-closed in
    let instance : Instance g.row.D.Denot g.row.C.Denot = record { closed = left.result.closed; writer = left.result.writer; callers = completed.callers; left = c.left_with.result } in
    leaves_shares (based_on g.D.Disk.model g.L.Origin.base g.L.Origin.before) completed.shares.items completed.seen completed.left instance left.result.refused (search rules) (search rules) (search rules) (search rules) (search rules)
