use Rattle.std.proofs.Common.{is_some, refl, ap, ◌∙◌}
use Rattle.coord_store.specs.Facade.{Kept}
use Rattle.coord_store.proofs.Changing.{changed, fails_so, kept_after, same_failures, untouched}
use Rattle.coord_store.proofs.Holding.{none_of}
use Rattle.coord_store.proofs.store.Store.put.Goals as goal

pub put_in_place-written-requires-clause-going : goal.put_in_place-written-requires-clause-going
put_in_place-written-requires-clause-going g c = c.self.invariant.stopped ∙ ap (λ (k : Kept g.row.D.Denot). is_some k.torn) c.self.view_is ∙ c.requires.going

-- what the type keeps
pub invariant_of-self : goal.invariant_of-self
invariant_of-self g c =
    let none = none_of c.self.inside.torn (is_some c.self.inside.torn) refl (ap (λ (k : Kept g.row.D.Denot). is_some k.torn) c.self.view_is ∙ c.requires.going) in
    kept_after g.D.Disk.model c.self.inside.journal c.put_in_place-written.new.journal c.self.inside.world c.args.next c.conclude.new.world c.self.inside.torn c.conclude.new.torn none c.self.invariant.holds
    g.met.D.Disk.laws c.self.invariant.legal c.requires.legal 4 c.put_in_place-written.result c.conclude.ensures.keeps (c.put_in_place-written.ensures.follows c.self.inside.world) (c.put_in_place-written.ensures.stays c.self.inside.world) c.put_in_place-written.ensures.ends

-- the promise, as the writing states it
pub returns-clause-changes : goal.returns-clause-changes
returns-clause-changes g c =
    let journal = c.self.inside.journal in
    let w = c.self.inside.world in
    let torn = c.self.inside.torn in
    let none = none_of torn (is_some torn) refl (ap (λ (k : Kept g.row.D.Denot). is_some k.torn) c.self.view_is ∙ c.requires.going) in
    rw (← c.self.view_is, c.conclude.ensures.answer)
    (changed g.D.Disk.model journal c.put_in_place-written.new.journal w c.args.next c.conclude.new.world torn c.conclude.new.torn none c.self.invariant.holds c.put_in_place-written.result
    c.put_in_place-written.ensures.ends.half_size c.conclude.ensures.keeps (c.put_in_place-written.ensures.follows w) (c.put_in_place-written.ensures.stays w))

pub returns-clause-unchanged : goal.returns-clause-unchanged
returns-clause-unchanged g c =
    let journal = c.self.inside.journal in
    let w = c.self.inside.world in
    let torn = c.self.inside.torn in
    let none = none_of torn (is_some torn) refl (ap (λ (k : Kept g.row.D.Denot). is_some k.torn) c.self.view_is ∙ c.requires.going) in
    rw (← c.self.view_is, c.conclude.ensures.answer)
    (untouched g.D.Disk.model journal c.put_in_place-written.new.journal w c.args.next c.conclude.new.world torn c.conclude.new.torn none c.self.invariant.holds c.put_in_place-written.result c.conclude.ensures.keeps c.put_in_place-written.ensures.unchanged)

pub returns-clause-fault : goal.returns-clause-fault
returns-clause-fault g c = rw c.conclude.ensures.answer (fails_so c.self.inside.world c.put_in_place-written.result _ c.put_in_place-written.ensures.ends.fault)

pub returns-clause-runs : goal.returns-clause-runs
returns-clause-runs g c = rw (← c.self.view_is, c.conclude.ensures.answer, same_failures c.self.inside.world c.put_in_place-written.result) c.put_in_place-written.ensures.ends.runs
