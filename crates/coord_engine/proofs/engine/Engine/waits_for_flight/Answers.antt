use Rattle.std.proofs.Common.{◌≡◌, Bool, true, false, not, refl, sym, subst, ◌∙◌}
use Rattle.coord_engine.specs.Pacing.{is_idle, is_over}
use Rattle.coord_engine.specs.State.{based_on, CanHold}
use Rattle.coord_engine.proofs.Moments.{then}
use Rattle.coord_engine.proofs.engine.Engine.waits_for_flight.Goals as goal

so : (over : Bool) → not over ≡ false → over ≡ true
so true is = refl
so false is = sym is

pub returns-clause-starts : goal.returns-clause-starts
returns-clause-starts g c = λ _.
    let b = based_on g.D.Disk.model g.L.Origin.base g.L.Origin.before in
    then b c.deref.result.now c.keeps.ensures (λ x. is_idle x ≡ false) (rw c.deref.ensures c.lock_for_flight-guarded.ensures)

pub returns-clause-ends : goal.returns-clause-ends
returns-clause-ends g c = λ none.
    let b = based_on g.D.Disk.model g.L.Origin.base g.L.Origin.before in
    let is = subst (CanHold b) (c.deref-2.ensures ∙ sym c.deref-3.ensures) c.keeps-2.ensures in
    then b c.deref-3.result.now is (λ x. is_over x ≡ true) (sym c.is_over.ensures ∙ so c.is_over.result none)
