use Rattle.coord_world.proofs.lanes.LaneNumbers.{lane_short}
use Rattle.coord_world.proofs.legal.SoundView.{sound_view}
use Rattle.coord_world.proofs.laws.lanes_are_short.Goals as goal

pub returns : goal.returns
returns c = λ w u v l range legal there. lane_short w u v l (sound_view w range legal) there
