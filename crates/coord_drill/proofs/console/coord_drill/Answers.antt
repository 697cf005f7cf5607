use Rattle.std.proofs.Common.{refl}
use Rattle.coord_drill.proofs.console.coord_drill.Goals as goal

pub returns-in-Ok-clause-ended : goal.returns-in-Ok-clause-ended
returns-in-Ok-clause-ended g c = (c.new_disk.result, _, c.new_disk.ensures, c.in-Ok.ensures.ended refl)

pub returns-in-Err-clause-broke : goal.returns-in-Err-clause-broke
returns-in-Err-clause-broke g c = (c.new_disk.result, _, c.new_disk.ensures, c.in-Err.ensures.failed refl)
