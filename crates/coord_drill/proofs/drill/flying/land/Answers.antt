use Rattle.std.proofs.Common.{◌≡◌, ◌-◌, [], ◌∷◌, Some, ap, ◌∙◌, subst, rules}
use Rattle.std.proofs.lemmas.Result.{IfErr-weaker}
use Rattle.coord_ledger.specs.declared.events.Event.TheVariants.{Commit, Finish}
use Rattle.coord_ledger.specs.Facade.{LedgerState, disk_held, settled_count, settling_releases}
use Rattle.coord_drill.specs.Facade.{Answer, Finished, Leads, landing_events}
use Rattle.coord_drill.proofs.does.Moments.{leads_one, leads_then}
use Rattle.coord_drill.proofs.drill.flying.land.Goals as goal
use Rattle.coord_drill.proofs.drill.flying.land.Goals.{in-Committed, in-Failed, in_default}

pub returns-in_err-releases-clause-cut : goal.returns-in_err-releases-clause-cut
returns-in_err-releases-clause-cut g c =
    let v = c.args.driver in
    let tried = c.commit-answer.new.self in
    let given = c.commit-answer.result in
    let tries : Leads g.D.Disk.model g.D.CrashDisk.crashes v (Commit ∷ []) (given ∷ []) tried =
    leads_one g.D.Disk.model g.D.CrashDisk.crashes v tried Commit given tt c.lemma_survives.ensures c.lemma_survives-2.ensures c.commit-answer.ensures.model c.commit-answer.ensures.failures c.commit-answer.ensures.simulates c.commit-answer.ensures.disk in
    IfErr-weaker c.from_residual.result (λ refused. disk_held tried ≡ Some refused.1) _ (λ refused there. record { given = given ∷ []; mid = tried; moments = tries; left = there }) (search rules)

pub returns-clause-lands : goal.returns-clause-lands
returns-clause-lands g c =
    let base = c.in_ok-releases.ensures.base ∙ ap (λ (l : LedgerState g.row.D.Denot). l.log.base) c.commit-answer.ensures.ledger in
    let settled = c.in_ok-releases.driver.ledger.log.settled in
    elim c.match-answer-2.branch [
      | in-Committed w ↦ rw w.result-is (record { base = base; released = c.in_ok-releases.ensures.released ∙ ap (λ (l : LedgerState g.row.D.Denot). settling_releases l.log (settled - l.log.settled)) c.commit-answer.ensures.ledger })
      | in-Failed w ↦ rw w.result-is base
      | in_default w ↦ rw w.result-is tt
    ]

pub returns-clause-moments : goal.returns-clause-moments
returns-clause-moments g c =
    let v = c.args.driver in
    let tried = c.commit-answer.new.self in
    let back = c.in_ok-releases.driver in
    let given = c.commit-answer.result in
    let count = settled_count back.ledger.log in
    let tries : Leads g.D.Disk.model g.D.CrashDisk.crashes v (Commit ∷ []) (given ∷ []) tried =
    leads_one g.D.Disk.model g.D.CrashDisk.crashes v tried Commit given tt c.lemma_survives.ensures c.lemma_survives-2.ensures c.commit-answer.ensures.model c.commit-answer.ensures.failures c.commit-answer.ensures.simulates c.commit-answer.ensures.disk in
    let goes : Leads g.D.Disk.model g.D.CrashDisk.crashes v landing_events (given ∷ Finished count ∷ []) back =
    leads_then g.D.Disk.model g.D.CrashDisk.crashes v tried back (Commit ∷ []) (Finish ∷ []) (given ∷ []) (Finished count ∷ []) tries c.in_ok-releases.ensures.moments in
    elim c.match-answer-2.branch [
      | in-Committed w ↦ rw w.result-is (subst (λ (a : Answer). Leads g.D.Disk.model g.D.CrashDisk.crashes v landing_events (a ∷ Finished count ∷ []) back) w.in-Committed.is goes)
      | in-Failed w ↦ rw w.result-is (subst (λ (a : Answer). Leads g.D.Disk.model g.D.CrashDisk.crashes v landing_events (a ∷ Finished count ∷ []) back) w.in-Failed.is goes)
      | in_default w ↦ rw w.result-is tt
    ]

pub returns-clause-cut : goal.returns-clause-cut
returns-clause-cut g c =
    let v = c.args.driver in
    let tried = c.commit-answer.new.self in
    let back = c.in_ok-releases.driver in
    let given = c.commit-answer.result in
    let count = settled_count back.ledger.log in
    let tries : Leads g.D.Disk.model g.D.CrashDisk.crashes v (Commit ∷ []) (given ∷ []) tried =
    leads_one g.D.Disk.model g.D.CrashDisk.crashes v tried Commit given tt c.lemma_survives.ensures c.lemma_survives-2.ensures c.commit-answer.ensures.model c.commit-answer.ensures.failures c.commit-answer.ensures.simulates c.commit-answer.ensures.disk in
    let goes : Leads g.D.Disk.model g.D.CrashDisk.crashes v landing_events (given ∷ Finished count ∷ []) back =
    leads_then g.D.Disk.model g.D.CrashDisk.crashes v tried back (Commit ∷ []) (Finish ∷ []) (given ∷ []) (Finished count ∷ []) tries c.in_ok-releases.ensures.moments in
    elim c.match-answer-2.branch [
      | in-Committed w ↦ rw w.result-is tt
      | in-Failed w ↦ rw w.result-is tt
      | in_default w ↦ rw w.result-is (record { given = given ∷ Finished count ∷ []; mid = back; moments = goes; left = w.lost.ensures.disk })
    ]
