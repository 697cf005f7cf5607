use Rattle.std.proofs.Common.{◌≡◌, length, false, Option, Some, None, Ok, is_some, refl, sym, ap, ◌∙◌, subst, rules}
use Rattle.coord_ledger.specs.Facade.{FlightState, HoldsFlight, at_home}
use Rattle.coord_ledger.proofs.runs.Calls.{begun_err, begun_none, begun_some, departs_own}
use Rattle.coord_ledger.proofs.Simulates.{simulates_next, simulates_not_begun, simulates_nothing}
use Rattle.coord_ledger.proofs.driver.Driver.begin.Goals as goal

-- no flight is out
none_is : {A : Type 0} (o : Option A) → is_some o ≡ false → o ≡ None
none_is None e = refl
none_is (Some x) e = let no : ⊥ = cc in absurd no

-- the flight that is out is the ledger's own
pub invariant_of-self : goal.invariant_of-self
invariant_of-self g c =
    let l = c.self.inside.ledger in
    let departs = begun_some l c.begin_flush.new.self c.begin_flush.result c.begin_flush.ensures.nothing c.begin_flush.ensures.begun c.in-Ok-Some.flight (c.in-Ok-Some.is ∙ ap Ok c.in-Ok-Some.field-0-is) in
    rw c.put.ensures (departs_own l c.begin_flush.new.self c.in-Ok-Some.flight departs)

-- the call is an event of the driver's machine

pub returns-in-Ok-Some-clause-simulates : goal.returns-in-Ok-Some-clause-simulates
returns-in-Ok-Some-clause-simulates g c =
    let l = c.self.inside.ledger in
    let none = none_is c.self.inside.flight (sym c.is_some.ensures ∙ c.if-is_some.false) in
    let home : l.out ≡ None = subst (HoldsFlight l) none c.self.invariant in
    let same : at_home l ≡ c.args.self.now = (λ i. record { ledger = l; flight = sym none i }) ∙ c.self.view_is in
    let departs = begun_some l c.begin_flush.new.self c.begin_flush.result c.begin_flush.ensures.nothing c.begin_flush.ensures.begun c.in-Ok-Some.flight (c.in-Ok-Some.is ∙ ap Ok c.in-Ok-Some.field-0-is) in
    let many : c.len-count.result ≡ length c.flight.inside.steps.items = search rules in
    let size : c.len-count.result ≡ length c.in-Ok-Some.flight.steps = many ∙ ap (λ (f : FlightState g.row.D.Denot). length f.steps) c.flight.view_is in
    rw c.put.ensures (rw size (rw (sym same) (simulates_next (at_home l) home c.in-Ok-Some.flight c.begin_flush.new.self departs)))

pub returns-in-Ok-None-clause-simulates : goal.returns-in-Ok-None-clause-simulates
returns-in-Ok-None-clause-simulates g c =
    let l = c.self.inside.ledger in
    let none = none_is c.self.inside.flight (sym c.is_some.ensures ∙ c.if-is_some.false) in
    let home : l.out ≡ None = subst (HoldsFlight l) none c.self.invariant in
    let same : at_home l ≡ c.args.self.now = (λ i. record { ledger = l; flight = sym none i }) ∙ c.self.view_is in
    let stays = begun_none l c.begin_flush.new.self c.begin_flush.result c.begin_flush.ensures.nothing c.begin_flush.ensures.begun (c.in-Ok-None.is ∙ ap Ok c.in-Ok-None.field-0-is) in
    rw stays.1 (rw none (rw (sym same) (simulates_nothing (at_home l) home stays.0)))

pub returns-in-Err-clause-simulates : goal.returns-in-Err-clause-simulates
returns-in-Err-clause-simulates g c =
    let l = c.self.inside.ledger in
    let none = none_is c.self.inside.flight (sym c.is_some.ensures ∙ c.if-is_some.false) in
    let home : l.out ≡ None = subst (HoldsFlight l) none c.self.invariant in
    let same : at_home l ≡ c.args.self.now = (λ i. record { ledger = l; flight = sym none i }) ∙ c.self.view_is in
    let goes = begun_err l c.begin_flush.new.self c.begin_flush.result c.begin_flush.ensures.nothing c.begin_flush.ensures.begun _ c.in-Err.is in
    rw c.in-Err.ensures.err (rw none (rw (sym same) (simulates_not_begun (at_home l) home goes)))
