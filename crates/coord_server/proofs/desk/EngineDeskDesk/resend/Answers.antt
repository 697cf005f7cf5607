use Rattle.std.proofs.Common.{IfOk, ap, subst}
use Rattle.coord_engine.specs.State.{based_on}
use Rattle.coord_server.specs.EngineDesk.{HandsAgain}
use Rattle.coord_server.proofs.desk.EngineDeskDesk.resend.Goals as goal

-- the port of the desk as it is seen is the one that it holds
pub returns-clause-handed : goal.returns-clause-handed
returns-clause-handed g c =
    subst (λ port. IfOk c.resend.result (λ count. HandsAgain (based_on g.D.Disk.model g.L.Origin.base g.L.Origin.before) g.P.Port.carried g.P.Port.signalled g.P.Port.handed_on count port c.resend.new.port))
    (ap (λ desk. desk.port) c.self.view_is) c.resend.ensures.handed
