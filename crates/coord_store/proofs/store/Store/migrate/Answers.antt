use Rattle.std.proofs.Common.{◌≡◌, ◌≢◌, eqb, cond, rules, refl, sym, ap, ◌∙◌, arith}
use Rattle.std.proofs.lemmas.Bool.Decides.{nat_tests}
use Rattle.coord_store.specs.Facade.{risen}
use Rattle.coord_store.specs.declared.faults.CommitFault.TheVariants as commit
use Rattle.coord_store.specs.declared.faults.StoreFault.TheVariants as fault
use Rattle.coord_world.specs.laws.Raised.{raised}
use Rattle.coord_world.specs.protocol.NumberedWorld.{World}
use Rattle.coord_store.proofs.Changing.{ok_not, refused, returned_again, returned_again_refused}
use Rattle.coord_store.proofs.Holding.{only_is_either}
use Rattle.coord_store.proofs.store.Store.migrate.Goals as goal

-- a world of version 1 rises
rises : (w : World) → w.version ≡ 1 → raised w ≡ risen w
rises w first = sym (ap (λ v. cond (eqb v 1) (raised w) w) first)

pub returns-then-stopped-clause-changes : goal.returns-then-stopped-clause-changes
returns-then-stopped-clause-changes g c = refused g.D.Disk.model c.args.self.now _ fault.Device fault.Stopped (λ e. absurd cc) c.lemma_images_give_world.ensures.still

pub returns-then-number-eq2-clause-changes : goal.returns-then-number-eq2-clause-changes
returns-then-number-eq2-clause-changes g c = record {
  any_moment = λ k none. only_is_either g.D.Disk.model _ _ _ _ (c.lemma_images_give_world.ensures.still k none);
  any_moment_refused = λ k none. tt;
  world = search rules;
  going = search rules;
  torn = λ e. ok_not _ _ e;
  same_world = tt;
  halves = λ k none size has. has;
}

pub returns-in-Some-clause-changes : goal.returns-in-Some-clause-changes
returns-in-Some-clause-changes g c = refused g.D.Disk.model c.args.self.now _ fault.Device (fault.NotQuiet c.in-Some.node) (λ e. absurd cc) c.lemma_images_give_world.ensures.still

pub returns-in-Err-clause-changes : goal.returns-in-Err-clause-changes
returns-in-Err-clause-changes g c = refused g.D.Disk.model c.args.self.now _ fault.Device fault.OutOfMemory (λ e. absurd cc) c.lemma_images_give_world.ensures.still

-- the new world is the required one, and the store reports it with its own faults

pub returns-in-Ok-put-clause-changes : goal.returns-in-Ok-put-clause-changes
returns-in-Ok-put-clause-changes g c =
    let w = c.args.self.now.world in
    let first : w.version ≡ 1 = grind (arith, nat_tests, c.lemma_in_range.ensures.first, c.lemma_in_range.ensures.last, c.if-number-eq2.false, c.number.ensures.value, c.version.ensures, c.world-world.ensures) in
    let same : c.in-Ok.next ≡ risen w = c.in-Ok.ensures.value ∙ ap raised c.world-world.ensures ∙ rises w first in
    rw (sym same) (returned_again g.D.Disk.model c.args.self.now c.put.new.self c.in-Ok.next commit.Device fault.Device _ _ c.in-Ok-put.ensures.changes)

pub returns-in-Err-Device-clause-changes : goal.returns-in-Err-Device-clause-changes
returns-in-Err-Device-clause-changes g c =
    let w = c.args.self.now.world in
    let first : w.version ≡ 1 = grind (arith, nat_tests, c.lemma_in_range.ensures.first, c.lemma_in_range.ensures.last, c.if-number-eq2.false, c.number.ensures.value, c.version.ensures, c.world-world.ensures) in
    let same : c.in-Ok.next ≡ risen w = c.in-Ok.ensures.value ∙ ap raised c.world-world.ensures ∙ rises w first in
    let device : c.in-Err-Device.field-0 ≡ commit.Device = search rules in
    rw (sym same) (returned_again_refused g.D.Disk.model c.args.self.now c.put.new.self c.in-Ok.next commit.Device fault.Device c.in-Err-Device.field-0 fault.Device (λ _. device) (λ unlike. absurd (unlike refl)) c.in-Err-Device.ensures.changes)

pub returns-in-Err-put-clause-changes : goal.returns-in-Err-put-clause-changes
returns-in-Err-put-clause-changes g c =
    let w = c.args.self.now.world in
    let first : w.version ≡ 1 = grind (arith, nat_tests, c.lemma_in_range.ensures.first, c.lemma_in_range.ensures.last, c.if-number-eq2.false, c.number.ensures.value, c.version.ensures, c.world-world.ensures) in
    let same : c.in-Ok.next ≡ risen w = c.in-Ok.ensures.value ∙ ap raised c.world-world.ensures ∙ rises w first in
    let why = c.in-Err-put.field-0 in
    let other : why ≢ commit.Device = search rules in
    rw (sym same) (returned_again_refused g.D.Disk.model c.args.self.now c.put.new.self c.in-Ok.next commit.Device fault.Device why fault.OutOfMemory (λ e. absurd cc) (λ _. other) c.in-Err-put.ensures.changes)
