use Rattle.std.proofs.Common.{◌≡◌, ◌≢◌, ◌∙◌, refl, sym, rules}
use Rattle.coord_ledger.specs.Facade.{Good, Mark, New, Torn}
use Rattle.coord_ledger.proofs.follows.IsOut.{took_torn}
use Rattle.coord_ledger.proofs.ledger.Ledger.take_back.Goals as goal

neither : (m n : Mark) → n ≡ m → n ≢ Torn → m ≢ Good → m ≡ New
neither New n same torn good = refl
neither Good n same torn good = absurd (good refl)
neither Torn n same torn good = absurd (torn same)

pub invariant_of-self : goal.invariant_of-self
invariant_of-self g c =
    let torn : c.into_parts-size.result.1 ≡ Torn = search rules in
    took_torn _ _ _ _ _ _ _ _ c.self.view_is c.self.invariant _ _ _ c.into_parts-size.ensures.store c.requires.own c.replace.ensures.after c.into_parts-size.result.0 c.into_parts-size.ensures.size (sym c.into_parts-size.ensures.mark ∙ torn)
