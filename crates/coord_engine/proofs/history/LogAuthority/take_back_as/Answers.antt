use Rattle.std.proofs.Common.{◌∙◌, sym, ap, arith}
use Rattle.coord_engine.specs.MonotoneLog.{Beginning}
use Rattle.coord_engine.proofs.Histories.{compares, joins}
use Rattle.coord_engine.proofs.history.LogAuthority.take_back_as.Goals as goal

pub join_seat-requires : goal.join_seat-requires
join_seat-requires g c =
    let token = c.self.inside.token in
    let other = c.reader.inside.token in
    let here = sym c.requires.here ∙ sym c.history.view_is in
    let theirs = ap (λ (b : Beginning). b.history) c.reader.view_is ∙ c.requires.theirs in
    let named = ap (λ (b : Beginning). b.steps) c.reader.view_is ∙ c.requires.named in
    rw c.deref.ensures (ap (λ (b : Beginning). b.history) c.self.view_is ∙ here, theirs ∙ here, c.reader.invariant, omega (arith, c.history.invariant), joins token.id token.me.0 other.id other.me.0 g.G.NamedSteps.steps named)

pub load-requires : goal.load-requires
load-requires g c =
    let joined = c.join_seat.ensures in
    let token = c.join_seat.new.seat in
    let here = sym c.requires.here ∙ sym c.history.view_is in
    rw c.deref-2.ensures (joined.0 ∙ ap (λ (b : Beginning). b.history) c.self.view_is ∙ here, omega (arith, c.history.invariant), compares _ token.id token.me (joined.1 ∙ c.self.invariant.0))
