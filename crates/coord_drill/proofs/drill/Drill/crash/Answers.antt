use Rattle.std.proofs.Common.{◌≡◌, ◌+◌, ◌++◌, [], ◌∷◌, refl, sym, ap, ◌∙◌, subst, arith, rules, string_bytes, inr}
use Rattle.coord_ledger.specs.declared.events.Event.TheVariants as event
use Rattle.coord_ledger.specs.Facade.{HasFailed, disk_held}
use Rattle.coord_drill.specs.Drill.{line_events}
use Rattle.coord_drill.specs.Facade.{IsPassingFault, Leads, LineIsPromised, Opened, drill_of, failed_by, opened_line}
use Rattle.coord_drill.specs.declared.asked.Asked.TheVariants.{Crash}
use Rattle.coord_drill.proofs.does.Crashes.{crash_cause, crash_failed}
use Rattle.coord_drill.proofs.does.Cuts.{cuts_part}
use Rattle.coord_drill.proofs.does.Does.{crash_after, crash_line}
use Rattle.coord_drill.proofs.does.Moments.{all_led, begins_by, carries, leads_one, run_of}
use Rattle.coord_drill.proofs.does.Verdicts.{no_refusal}
use Rattle.coord_drill.proofs.drill.Drill.crash.Goals as goal

pub returns-in-Err-clause-cut : goal.returns-in-Err-clause-cut
returns-in-Err-clause-cut g c promised =
    let reported = c.fault_of.ensures.reported in
    inr (record {
      moments = λ s is represents old there keeps. (c.in-Err.ensures.disk s is represents old there keeps).reopens;
      cause = λ on. subst IsPassingFault (sym reported) (crash_cause _ c.in-Err.kind c.in-Err.ensures.cause on);
      failed = λ n has. c.in-Err.ensures.failures n has ∙ ap (λ k. n + k) (sym (ap failed_by reported ∙ crash_failed c.in-Err.kind));
    })

pub returns-in-Ok-print_opened-clause-reported : goal.returns-in-Ok-print_opened-clause-reported
returns-in-Ok-print_opened-clause-reported g c =
    let d = c.args.self in
    let w = c.in-Ok.opened.1 in
    let count = c.in-Ok.opened.0 in
    let line = opened_line count in
    let text : string_bytes c.print_opened.new.text ≡ string_bytes c.args.text.now ++ line = search rules in
    let begins = begins_by g.D.Disk.model g.D.CrashDisk.crashes d.driver c.lemma_begins.ensures in
    let leads : LineIsPromised g.D.Disk.model d Crash → Leads g.D.Disk.model g.D.CrashDisk.crashes d.driver (event.Crash ∷ []) (Opened count ∷ []) w =
    λ promised. leads_one g.D.Disk.model g.D.CrashDisk.crashes d.driver w event.Crash (Opened count) tt c.lemma_survives.ensures c.lemma_survives-2.ensures c.in-Ok.ensures.model
    (λ n has. let none : n ≡ n + 0 = omega arith in subst (HasFailed g.D.Disk.model.failures (disk_held w)) none (c.in-Ok.ensures.failures n has))
    (c.in-Ok.ensures.simulates promised.0) c.in-Ok.ensures.disk in (
      line,
      (
        text,
        λ promised.
            let led = leads promised in
            carries g.D.Disk.model g.D.CrashDisk.crashes d _ Crash (Opened count ∷ []) line refl begins led (no_refusal _ refl, tt) (crash_line (drill_of d.driver.ledger d.holds d.has_begun) count)
            (crash_after g.D.Disk.model g.D.CrashDisk.crashes d.driver w d.holds d.has_begun count (run_of g.D.Disk.model g.D.CrashDisk.crashes d.driver w (event.Crash ∷ []) (Opened count ∷ []) begins led) c.in-Ok.ensures.anew),
      ),
    )

pub returns-in-Err-print_opened-clause-cut : goal.returns-in-Err-print_opened-clause-cut
returns-in-Err-print_opened-clause-cut g c promised =
    let d = c.args.self in
    let w = c.in-Ok.opened.1 in
    let count = c.in-Ok.opened.0 in
    let begins = begins_by g.D.Disk.model g.D.CrashDisk.crashes d.driver c.lemma_begins.ensures in
    let led : Leads g.D.Disk.model g.D.CrashDisk.crashes d.driver (event.Crash ∷ []) (Opened count ∷ []) w =
    leads_one g.D.Disk.model g.D.CrashDisk.crashes d.driver w event.Crash (Opened count) tt c.lemma_survives.ensures c.lemma_survives-2.ensures c.in-Ok.ensures.model
    (λ n has. let none : n ≡ n + 0 = omega arith in subst (HasFailed g.D.Disk.model.failures (disk_held w)) none (c.in-Ok.ensures.failures n has))
    (c.in-Ok.ensures.simulates promised.0) c.in-Ok.ensures.disk in
    cuts_part g.D.Disk.model g.D.CrashDisk.crashes d Crash c.lost.result refl (c.lost.ensures.fault, all_led g.D.Disk.model g.D.CrashDisk.crashes d.driver w (line_events d.holds Crash) (Opened count ∷ []) _ begins led c.lost.ensures.disk)
