use Rattle.coord_ledger.proofs.follows.IsOut.{took_good}
use Rattle.std.proofs.Common.{◌∙◌}
use Rattle.coord_ledger.proofs.ledger.Ledger.take_settled.Goals as goal

pub invariant_of-self : goal.invariant_of-self
invariant_of-self g c =
    took_good _ _ _ _ _ _ _ _ c.self.view_is c.self.invariant _ _ _ c.into_parts-size.ensures.store c.requires.own c.replace.ensures.after c.into_parts-size.result.0 _ _ c.into_parts-size.ensures.size c.requires.good c.drop_first.ensures (c.replace-2.ensures.after ∙ c.requires.led)
