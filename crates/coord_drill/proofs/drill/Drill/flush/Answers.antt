use Rattle.std.proofs.Common.{◌≡◌, ◌++◌, ap, ◌∙◌, append_assoc, rules, string_bytes}
use Rattle.coord_ledger.specs.machine.Log.{settled_world}
use Rattle.coord_drill.specs.Facade.{count_line, flight_events, state_of}
use Rattle.coord_drill.proofs.does.Flushes.{flushes}
use Rattle.coord_drill.proofs.does.Moments.{all_led, begins_by, passed_on}
use Rattle.coord_drill.proofs.drill.Drill.flush.Goals as goal

pub returns-in-Ok-clause-reported : goal.returns-in-Ok-clause-reported
returns-in-Ok-clause-reported g c =
    let d = c.args.self in
    let new = c.in_ok-drill.drill in
    let flown = c.in_ok-drill.ensures.reported in
    let line = count_line (settled_world (state_of new).log).count in
    let text : string_bytes c.print_count.new.text ≡ string_bytes c.fly.new.text ++ line = search rules in
    (flown.0 ++ line, (text ∙ ap (λ l. l ++ line) flown.1.0 ∙ append_assoc (string_bytes c.args.text.now) flown.0 line, λ promised. flushes g.D.Disk.model g.D.CrashDisk.crashes d new flown.0 flown.1.1 (begins_by g.D.Disk.model g.D.CrashDisk.crashes d.driver c.lemma_begins.ensures)))

pub returns-in-Err-clause-cut : goal.returns-in-Err-clause-cut
returns-in-Err-clause-cut g c promised =
    let d = c.args.self in
    let flown = c.in_ok-drill.ensures.reported.1.1 in
    (c.lost.ensures.fault, all_led g.D.Disk.model g.D.CrashDisk.crashes d.driver c.in_ok-drill.drill.driver flight_events flown.given _ (begins_by g.D.Disk.model g.D.CrashDisk.crashes d.driver c.lemma_begins.ensures) flown.moments c.lost.ensures.disk)

pub returns-in_err-drill-clause-cut : goal.returns-in_err-drill-clause-cut
returns-in_err-drill-clause-cut g c = passed_on c.from_residual.result c.in_err-drill.field-0.0 _ c.from_residual.ensures.1 (λ promised. (c.in_err-drill.ensures.fault, c.in_err-drill.ensures.cut))
