use Rattle.std.proofs.Common.{[], ◌∷◌, refl, subst}
use Rattle.std.proofs.lemmas.Result.{IfErr-weaker, IfOk-weaker}
use Rattle.coord_drill.specs.Facade.{Begun, Leads, flight_events}
use Rattle.coord_ledger.specs.declared.events.Event.TheVariants.{Begin}
use Rattle.coord_ledger.specs.Facade.{IsOneOf, next_size, settled_count, started, to_begin}
use Rattle.coord_drill.proofs.does.FlownTo.{begun_size, flown_by, flown_part, flown_to}
use Rattle.coord_drill.proofs.does.Moments.{if_ok_both, leads_aside, none_led}
use Rattle.coord_drill.proofs.drill.flying.send_out.Goals as goal
use Rattle.coord_drill.proofs.drill.flying.send_out.Goals.{in-Begun, in-Nothing, in_default}

pub returns-clause-flown : goal.returns-clause-flown
returns-clause-flown g c =
    let same = c.begin-begun.ensures.log in
    elim c.match-begun.branch [
      | in-Begun w ↦ rw w.result-is (IfOk-weaker w.land.result _ _ (λ r back. flown_to c.args.driver.ledger.log c.begin-begun.new.self.ledger.log r.driver.ledger.log r.flown same back) w.land.ensures.lands)
      | in-Nothing w ↦ rw w.result-is same
      | in_default w ↦ rw w.result-is tt
    ]

pub returns-clause-moments : goal.returns-clause-moments
returns-clause-moments g c =
    let v = c.args.driver in
    let out = c.begin-begun.new.self in
    let goes : Leads g.D.Disk.model g.D.CrashDisk.crashes v (Begin ∷ []) (c.begin-begun.result ∷ []) out =
    leads_aside g.D.Disk.model g.D.CrashDisk.crashes v out Begin c.begin-begun.result tt c.lemma_survives.ensures c.lemma_survives-2.ensures g.met.D.Disk.laws refl (λ s. refl) refl c.begin-begun.ensures.disk c.begin-begun.ensures.simulates in
    elim c.match-begun.branch [
      | in-Begun w ↦
          let so_far = c.lemma_begins.ensures.so_far in
          let allowed = ((goes (started v.ledger) so_far.consistent so_far.represents).answered).0 in
          let size = begun_size (started v.ledger) w.in-Begun.field-0 (subst (λ a. IsOneOf a (to_begin (started v.ledger))) w.in-Begun.is allowed) in
          let begun = subst (λ a. Leads g.D.Disk.model g.D.CrashDisk.crashes v (Begin ∷ []) (a ∷ []) out) w.in-Begun.is goes in
          rw w.result-is
          (IfOk-weaker w.land.result _ _
          (λ r landed. flown_by g.D.Disk.model g.D.CrashDisk.crashes v out r.driver r.flown (next_size v.ledger.log) (settled_count r.driver.ledger.log) landed.0 (subst (λ b. Leads g.D.Disk.model g.D.CrashDisk.crashes v (Begin ∷ []) (Begun b ∷ []) out) size begun) landed.1)
          (if_ok_both _ _ w.land.result w.land.ensures.lands w.land.ensures.moments))
      | in-Nothing w ↦ rw w.result-is (subst (λ a. Leads g.D.Disk.model g.D.CrashDisk.crashes v (Begin ∷ []) (a ∷ []) out) w.in-Nothing.is goes)
      | in_default w ↦ rw w.result-is tt
    ]

pub returns-clause-cut : goal.returns-clause-cut
returns-clause-cut g c =
    let v = c.args.driver in
    let out = c.begin-begun.new.self in
    let goes : Leads g.D.Disk.model g.D.CrashDisk.crashes v (Begin ∷ []) (c.begin-begun.result ∷ []) out =
    leads_aside g.D.Disk.model g.D.CrashDisk.crashes v out Begin c.begin-begun.result tt c.lemma_survives.ensures c.lemma_survives-2.ensures g.met.D.Disk.laws refl (λ s. refl) refl c.begin-begun.ensures.disk c.begin-begun.ensures.simulates in
    elim c.match-begun.branch [
      | in-Begun w ↦
          let begun = subst (λ a. Leads g.D.Disk.model g.D.CrashDisk.crashes v (Begin ∷ []) (a ∷ []) out) w.in-Begun.is goes in
          rw w.result-is (IfErr-weaker w.land.result _ _ (λ refused part. flown_part g.D.Disk.model g.D.CrashDisk.crashes v out w.in-Begun.field-0 refused.1 begun part) w.land.ensures.cut)
      | in-Nothing w ↦ rw w.result-is tt
      | in_default w ↦ rw w.result-is (none_led g.D.Disk.model g.D.CrashDisk.crashes v out flight_events _ c.lemma_survives.ensures c.begin-begun.ensures.disk w.lost.ensures.disk)
    ]
