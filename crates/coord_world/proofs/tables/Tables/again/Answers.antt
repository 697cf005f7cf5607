use Rattle.std.proofs.Common.{◌≡◌, ap}
use Rattle.coord_world.specs.protocol.NumberedWorld.{World}
use Rattle.coord_world.proofs.lanes.LaneNumbers.{all_numbered}
use Rattle.coord_world.proofs.tables.Tables.again.Goals as goal

pub push_all_again-requires : goal.push_all_again-requires
push_all_again-requires c =
    let same : c.self.inside.links ≡ (c.args.self.now).links = ap (λ (w : World). w.links) c.self.view_is in
    rw same (all_numbered c.args.self.now c.requires)
