use Rattle.std.proofs.Common.{◌∙◌}
use Rattle.coord_ledger.specs.Facade.{settled_steps, settled_world}
use Rattle.coord_engine.proofs.Releasing.{resent_of_settled}
use Rattle.coord_engine.proofs.guarded.Guarded.resend.Goals as goal

pub new-requires : goal.new-requires
new-requires g c =
    let log = c.self.inside.ledger.log in
    resent_of_settled g.L.Origin.history g.L.Origin.earlier g.L.Origin.base (settled_world log) (settled_steps log) c.in_ok-releases.releases c.reader.result (c.reader.ensures.read ∙ c.self.invariant.9) c.in_ok-releases.ensures
