use Rattle.std.proofs.Common.{Err, inl, inr, refl, sym, subst, arith}
use Rattle.coord_world.specs.Facade.{World, fold}
use Rattle.coord_store.specs.Facade.{Concludes, Takes}
use Rattle.coord_store.specs.declared.faults.CommitFault.TheVariants.{OutOfMemory, Device}
use Rattle.coord_store.proofs.Changing.{committed, kept_after, never_stopped, none_run, not_stopped, refused}
use Rattle.coord_store.proofs.Holding.{begun, none_of}
use Rattle.coord_store.proofs.store.Store.commit_to.Goals as goal

-- what the type keeps
pub invariant_of-self : goal.invariant_of-self
invariant_of-self g c =
    let w = c.self.inside.world in
    let steps = c.args.steps.now in
    let takes : Takes w c.deref.result.now steps = rw c.deref.ensures.value c.in-Ok.ensures.taken in
    let none = none_of c.self.inside.torn c.is_some.result c.is_some.ensures c.if-is_some.false in
    let keeps = subst (λ next. Concludes next w c.conclude.new.world c.self.inside.torn c.conclude.new.torn c.write-written.result) c.in-Ok.ensures.world c.conclude.ensures.keeps in
    kept_after g.D.Disk.model c.self.inside.journal c.write-written.new.journal w (fold w steps) c.conclude.new.world c.self.inside.torn c.conclude.new.torn none c.self.invariant.holds
    g.met.D.Disk.laws c.self.invariant.legal (rw (sym c.in-Ok.ensures.world) c.in-Ok.ensures.legal) 8 c.write-written.result keeps (λ held. c.write-written.ensures.follows steps held takes) c.write-written.ensures.stays c.write-written.ensures.ends

-- there is no memory for the batch
pub returns-in-Err-clause-commits : goal.returns-in-Err-clause-commits
returns-in-Err-clause-commits g c =
    let m = g.D.Disk.model in
    let journal = c.self.inside.journal in
    let w = c.self.inside.world in
    let none = none_of c.self.inside.torn c.is_some.result c.is_some.ensures c.if-is_some.false in
    rw (← c.self.view_is) (record {
      changes = refused m _ _ Device OutOfMemory (λ e. absurd cc) (λ k same. begun m g.met.D.Disk.laws journal w (c.self.invariant.holds k same));
      runs = none_run m journal.disk 8;
      calls_where_it_fits = λ half fits. omega arith;
      half_where_it_fits = λ half fits. tt;
      stopped = never_stopped {T = World} (Err OutOfMemory) c.self.inside.torn (inl refl) none;
      fault = inr (inl refl);
      unchanged = λ _. refl;
      untouched = λ e. not_stopped {T = World} (Err OutOfMemory) (inl refl) e;
    })

-- the batch was written, or was not
pub returns-clause-commits : goal.returns-clause-commits
returns-clause-commits g c =
    let m = g.D.Disk.model in
    let journal = c.self.inside.journal in
    let w = c.self.inside.world in
    let torn = c.self.inside.torn in
    let steps = c.args.steps.now in
    let takes : Takes w c.deref.result.now steps = rw c.deref.ensures.value c.in-Ok.ensures.taken in
    let none = none_of c.self.inside.torn c.is_some.result c.is_some.ensures c.if-is_some.false in
    let keeps = subst (λ next. Concludes next w c.conclude.new.world torn c.conclude.new.torn c.write-written.result) c.in-Ok.ensures.world c.conclude.ensures.keeps in
    rw (← c.self.view_is, c.conclude.ensures.answer)
    (committed m journal c.write-written.new.journal w c.conclude.new.world torn c.conclude.new.torn none c.self.invariant.holds steps c.deref.result.now takes c.write-written.result
    keeps (λ held. c.write-written.ensures.follows steps held takes) c.write-written.ensures.stays c.write-written.ensures.ends c.write-written.ensures.calls_where_it_fits c.write-written.ensures.half_where_it_fits)
