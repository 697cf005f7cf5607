use Rattle.std.proofs.Common.{◌≡◌, false, None, Option, Some, is_none, is_some, refl, sym, ap, ◌∙◌, subst}
use Rattle.coord_ledger.specs.Facade.{DriverState, HoldsFlight, IsConsistent, machine_of, started}
use Rattle.coord_ledger.proofs.runs.SoFar.{so_far_first}
use Rattle.coord_ledger.proofs.Simulates.{own_consistent}
use Rattle.coord_ledger.proofs.driver.Driver.lemma_begins.Goals as goal

some_disk : {D : Type 0} (o : Option D) → is_none o ≡ false → (disk : D) × (o ≡ Some disk)
some_disk None gone = let never : ⊥ = cc in absurd never
some_disk (Some disk) there = (disk, refl)

pub returns : goal.returns
returns g c =
    let d = c.args.self.now in
    let kept = c.lemma_log_is_consistent.ensures in
    let inside : DriverState g.row.D.Denot = record { ledger = c.self.inside.ledger; flight = c.self.inside.flight } in
    let same = ap (λ (x : DriverState g.row.D.Denot). x.ledger) c.self.view_is in
    let own = subst (λ (x : DriverState g.row.D.Denot). HoldsFlight x.ledger x.flight) c.self.view_is c.self.invariant in
    let is = subst (λ (x : DriverState g.row.D.Denot). IsConsistent (machine_of x (started x.ledger))) c.self.view_is (own_consistent inside c.self.invariant kept.log kept.out kept.doubted kept.stopped) in
    let home : d.ledger.out ≡ None = subst (HoldsFlight d.ledger) c.requires own in
    let first = some_disk d.ledger.disk (sym (rw (sym same) kept.home) ∙ ap is_some home) in
    record {
      first = first.0;
      home = first.1;
      so_far = so_far_first g.D.Disk.model g.D.CrashDisk.crashes first.0 d c.requires own is first.1 c.lemma_survives.ensures;
    }
