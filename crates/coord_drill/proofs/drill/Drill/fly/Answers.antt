use Rattle.std.proofs.Common.{◌++◌, ap, ◌∙◌, refl, string_bytes}
use Rattle.coord_ledger.specs.Facade.{LedgerState, next_size, settled_count, settled_world, started}
use Rattle.coord_drill.specs.Facade.{flight_events, flown_answers, flown_lines, left_by}
use Rattle.coord_drill.proofs.does.Moments.{all_led, begins_by}
use Rattle.coord_drill.proofs.does.FlownTo.{flies, flown_granted, flown_ready}
use Rattle.coord_drill.proofs.drill.Drill.fly.Goals as goal

pub print_flown-printed-requires : goal.print_flown-printed-requires
print_flown-printed-requires g c =
    let d = c.args.self in
    let r = c.in-Ok.landing in
    let so_far = c.lemma_begins.ensures.so_far in
    let run = c.in-Ok.ensures.moments (started d.driver.ledger) so_far.consistent so_far.represents in
    record { granted = rw c.ledger.ensures (flown_granted g.D.Disk.model g.D.CrashDisk.crashes d.driver r.driver d.tickets.items c.requires.ready.1 (settled_count r.driver.ledger.log) r.flown run c.in-Ok.ensures.flown) }

pub returns-in-Ok-printed-clause-ready : goal.returns-in-Ok-printed-clause-ready
returns-in-Ok-printed-clause-ready g c =
    let d = c.args.self in
    let r = c.in-Ok.landing in
    let so_far = c.lemma_begins.ensures.so_far in
    let run = c.in-Ok.ensures.moments (started d.driver.ledger) so_far.consistent so_far.represents in
    let rest = c.in-Ok-printed.ensures.left ∙ ap (λ (l : LedgerState g.row.D.Denot). left_by (settled_world l.log) r.flown d.tickets.items) c.ledger.ensures in
    flown_ready g.D.Disk.model g.D.CrashDisk.crashes d.driver r.driver d.tickets.items c.requires.ready.1 (settled_count r.driver.ledger.log) r.flown c.print_flown-printed.new.tickets.items run c.in-Ok.ensures.flown rest

pub returns-in-Ok-printed-clause-reported : goal.returns-in-Ok-printed-clause-reported
returns-in-Ok-printed-clause-reported g c =
    let d = c.args.self in
    let r = c.in-Ok.landing in
    let text = c.in-Ok-printed.ensures.printed ∙ ap (λ (l : LedgerState g.row.D.Denot). string_bytes c.args.text.now ++ flown_lines (settled_world l.log) r.flown d.tickets.items) c.ledger.ensures in
    (flown_lines (settled_world r.driver.ledger.log) r.flown d.tickets.items, (text, flies g.D.Disk.model g.D.CrashDisk.crashes d _ r.flown refl refl c.requires.ready.1 (begins_by g.D.Disk.model g.D.CrashDisk.crashes d.driver c.lemma_begins.ensures) c.in-Ok.ensures.flown c.in-Ok.ensures.moments))

pub returns-in-Err-printed-clause-cut : goal.returns-in-Err-printed-clause-cut
returns-in-Err-printed-clause-cut g c =
    let d = c.args.self in
    let r = c.in-Ok.landing in
    all_led g.D.Disk.model g.D.CrashDisk.crashes d.driver r.driver flight_events (flown_answers r.flown (next_size d.driver.ledger.log) (settled_count r.driver.ledger.log)) _ (begins_by g.D.Disk.model g.D.CrashDisk.crashes d.driver c.lemma_begins.ensures) c.in-Ok.ensures.moments c.lost.ensures.disk
