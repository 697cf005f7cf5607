use Rattle.std.proofs.lemmas.Slice.Eq.{slice_eq-Decides}
use Rattle.coord_ledger.proofs.follows.SameSteps.{step_eq}
use Rattle.coord_ledger.proofs.settling.are_same.Goals as goal

pub returns : goal.returns
returns c = slice_eq-Decides step_eq _ _ _ c.eq.ensures
