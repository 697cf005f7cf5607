use Rattle.coord_engine.specs.State.{based_on}
use Rattle.coord_server.proofs.Ends.{serves_with}
use Rattle.coord_server.proofs.threads.serve_over.Goals as goal

pub returns : goal.returns
returns g c =
    let b = based_on g.D.Disk.model g.L.Origin.base g.L.Origin.before in
    let left = c.serve_clients-left in
    serves_with b g.C.Callers.talked g.C.Callers.failed c.args.setting.now.instance_steps g.L.Origin.history g.L.Origin.earlier _ c.args.callers.now left.new.callers left.new.desk left.result _ _ left.ensures.served c.into_parts-own.ensures.notes c.into_parts-own.ensures.seen c.into_parts-own.ensures.read
