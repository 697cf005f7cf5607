use Rattle.coord_engine.proofs.PacketNotes.{all_of_packets}
use Rattle.coord_engine.proofs.working.packet_worker.Goals as goal

pub invariant_of-result : goal.invariant_of-result
invariant_of-result g c = all_of_packets c.into_share.result c.worker.result c.worker.ensures.packets c.into_share.ensures.packets
