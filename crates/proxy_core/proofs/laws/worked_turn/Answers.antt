use Rattle.std.proofs.Common.{refl}
use Rattle.proxy_core.proofs.laws.worked_turn.Goals as goal

pub returns : goal.returns
returns c = record { together = refl; alone = refl; apart = refl; waits = refl; refused = refl; places = refl; numbers = refl; delivered = refl; overtaken = refl; ended = refl; dropped = refl }
