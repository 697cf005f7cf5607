use Rattle.std.proofs.Common.{◌≡◌, length, subst}
use Rattle.coord_ledger.specs.Facade.{IsOut, taken_back}
use Rattle.coord_engine.specs.Facade.{CanHold, ComesBack, based_on, with_ledger}
use Rattle.coord_engine.proofs.Moments.{then}
use Rattle.coord_engine.proofs.engine.Engine.end.Goals as goal

pub returns-in-Ok-clause-back : goal.returns-in-Ok-clause-back
returns-in-Ok-clause-back g c =
    let b = based_on g.D.Disk.model g.L.Origin.base g.L.Origin.before in
    let s = c.deref_mut.result.now in
    let own = subst (λ f. IsOut s.ledger f) c.loop.invariant.2 c.in-Ok.ensures.own in
    let taken = subst (λ f. c.end.new.self ≡ with_ledger s (taken_back s.ledger (length f.steps) f.mark f.disk)) c.loop.invariant.2 c.in-Ok.ensures.taken in
    let is : CanHold b c.end.new.self = subst (CanHold b) c.deref.ensures c.keeps.ensures in
    then b c.end.new.self is (ComesBack c.args.flight) (s, own, taken)
