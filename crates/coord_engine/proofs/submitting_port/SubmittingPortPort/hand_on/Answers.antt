use Rattle.coord_engine.specs.State.{based_on}
use Rattle.coord_engine.proofs.PacketNotes.{all_of_packets}
use Rattle.coord_engine.proofs.Worked.{works_and_tries_adds}
use Rattle.coord_engine.proofs.submitting_port.SubmittingPortPort.hand_on.Goals as goal

pub invariant_of-self : goal.invariant_of-self
invariant_of-self g c =
    all_of_packets _ _ (works_and_tries_adds (based_on g.D.Disk.model g.L.Origin.base g.L.Origin.before) _ _ _ _ _ c.take_and_try.ensures) c.self.invariant
