use Rattle.std.proofs.Common.{refl}
use Rattle.proxy_core.proofs.laws.worked_view.Goals as goal

pub returns : goal.returns
returns c = record { permitted = refl; not_permitted = refl; not_queued = refl; overtaken = refl; broken = refl; once = refl; taken_back = refl; refused = refl }
