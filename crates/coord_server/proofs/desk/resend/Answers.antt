use Rattle.std.proofs.Common.{sym, subst}
use Rattle.coord_engine.proofs.Releasing.{may_ask_again}
use Rattle.coord_engine.specs.Facade.{MayAskAll}
use Rattle.coord_ledger.specs.machine.Log.{settled_world}
use Rattle.coord_server.proofs.desk.resend.Goals as goal

pub hand_over-requires : goal.hand_over-requires
hand_over-requires g c =
    let again = c.in-Ok.ensures in
    λ read of. subst (MayAskAll (g.P.Port.may_signal read)) (sym again.so) (may_ask_again (g.P.Port.may_signal read) (settled_world again.state.ledger.log))
