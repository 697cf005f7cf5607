use Rattle.std.proofs.Common.{Ok, ◌≡◌, ◌≢◌, ◌++◌, refl, ap, ◌∙◌, rules, false, true, subst, string_bytes}
use Rattle.std.proofs.lemmas.Result.{IfErr-weaker, IfOk-weaker}
use Rattle.coord_types.specs.declared.refusals.Refusal.TheVariants.{OutOfMemory}
use Rattle.coord_ledger.specs.Facade.{LedgerState, reply_of, settled_count}
use Rattle.coord_drill.specs.declared.asked.Asked.TheVariants.{Submit}
use Rattle.coord_drill.specs.Facade.{Hands, kept_line, pending_line, refusal_line}
use Rattle.coord_drill.proofs.does.Cuts.{cut_before}
use Rattle.coord_drill.proofs.does.HandedTo.{accepted_ready, carries_flight, carries_pending, carries_refusal, carries_repeat, cut_flight, cut_handed, kept_ready, repeated_granted}
use Rattle.coord_drill.proofs.does.Moments.{begins_by, if_err_both}
use Rattle.coord_drill.proofs.drill.Drill.submit.Goals as goal

pub returns-then-is_err-clause-cut : goal.returns-then-is_err-clause-cut
returns-then-is_err-clause-cut g c = cut_before g.D.Disk.model g.D.CrashDisk.crashes c.args.self (Submit c.args.step) c.lost.result refl c.lost.ensures.fault c.lemma_survives.ensures c.lost.ensures.disk

pub fly-requires : goal.fly-requires
fly-requires g c =
    let d = c.args.self in
    let w = c.hand_in.new.driver in
    let t = c.in-Ok-Accepted.ticket in
    let begins = begins_by g.D.Disk.model g.D.CrashDisk.crashes d.driver c.lemma_begins.ensures in
    let hands = subst (λ r. Hands g.D.Disk.model g.D.CrashDisk.crashes d.driver c.args.step r w) (c.in-Ok-Accepted.is ∙ ap Ok c.in-Ok-Accepted.field-0-is) c.hand_in.ensures in
    record { ready = accepted_ready g.D.Disk.model g.D.CrashDisk.crashes d w c.args.step c.requires.ready t c.push_back_reserved.new.self.items begins hands (search rules) }

pub returns-then-not-drill-clause-reported : goal.returns-then-not-drill-clause-reported
returns-then-not-drill-clause-reported g c =
    let d = c.args.self in
    let w = c.hand_in.new.driver in
    let t = c.in-Ok-Accepted.ticket in
    let begins = begins_by g.D.Disk.model g.D.CrashDisk.crashes d.driver c.lemma_begins.ensures in
    let hands = subst (λ r. Hands g.D.Disk.model g.D.CrashDisk.crashes d.driver c.args.step r w) (c.in-Ok-Accepted.is ∙ ap Ok c.in-Ok-Accepted.field-0-is) c.hand_in.ensures in
    let free : d.holds ≡ false = search rules in
    IfOk-weaker c.fly.result _ _
    (λ new flown. (flown.0, (flown.1.0, λ promised. carries_flight g.D.Disk.model g.D.CrashDisk.crashes d w c.args.step c.requires.ready new begins _ t flown.0 refl refl refl free hands flown.1.1)))
    c.fly.ensures.reported

pub returns-then-not-drill-clause-cut : goal.returns-then-not-drill-clause-cut
returns-then-not-drill-clause-cut g c =
    let d = c.args.self in
    let w = c.hand_in.new.driver in
    let t = c.in-Ok-Accepted.ticket in
    let begins = begins_by g.D.Disk.model g.D.CrashDisk.crashes d.driver c.lemma_begins.ensures in
    let hands = subst (λ r. Hands g.D.Disk.model g.D.CrashDisk.crashes d.driver c.args.step r w) (c.in-Ok-Accepted.is ∙ ap Ok c.in-Ok-Accepted.field-0-is) c.hand_in.ensures in
    let free : d.holds ≡ false = search rules in
    IfErr-weaker c.fly.result _ _ (λ refused both promised. (both.0, cut_flight g.D.Disk.model g.D.CrashDisk.crashes d w c.args.step c.requires.ready d begins (record d { driver = w; tickets = c.push_back_reserved.new.self; has_begun = true }) t refused.1 refl free hands both.1))
    (if_err_both _ _ c.fly.result c.fly.ensures.fault c.fly.ensures.cut)

pub returns-in-Ok-clause-ready : goal.returns-in-Ok-clause-ready
returns-in-Ok-clause-ready g c =
    let d = c.args.self in
    let w = c.hand_in.new.driver in
    let t = c.in-Ok-Accepted.ticket in
    let begins = begins_by g.D.Disk.model g.D.CrashDisk.crashes d.driver c.lemma_begins.ensures in
    let hands = subst (λ r. Hands g.D.Disk.model g.D.CrashDisk.crashes d.driver c.args.step r w) (c.in-Ok-Accepted.is ∙ ap Ok c.in-Ok-Accepted.field-0-is) c.hand_in.ensures in
    accepted_ready g.D.Disk.model g.D.CrashDisk.crashes d w c.args.step c.requires.ready t c.push_back_reserved.new.self.items begins hands (search rules)

pub returns-in-Ok-clause-reported : goal.returns-in-Ok-clause-reported
returns-in-Ok-clause-reported g c =
    let d = c.args.self in
    let w = c.hand_in.new.driver in
    let t = c.in-Ok-Accepted.ticket in
    let begins = begins_by g.D.Disk.model g.D.CrashDisk.crashes d.driver c.lemma_begins.ensures in
    let hands = subst (λ r. Hands g.D.Disk.model g.D.CrashDisk.crashes d.driver c.args.step r w) (c.in-Ok-Accepted.is ∙ ap Ok c.in-Ok-Accepted.field-0-is) c.hand_in.ensures in
    let line = pending_line t.step in
    let kept : d.holds ≡ true = search rules in
    let text : string_bytes c.print_pending.new.text ≡ string_bytes c.args.text.now ++ line = search rules in
    (line, (text, λ promised. carries_pending g.D.Disk.model g.D.CrashDisk.crashes d w c.args.step c.requires.ready _ begins refl refl t hands refl kept))

pub returns-in-Err-print_pending-clause-cut : goal.returns-in-Err-print_pending-clause-cut
returns-in-Err-print_pending-clause-cut g c =
    let d = c.args.self in
    let w = c.hand_in.new.driver in
    let t = c.in-Ok-Accepted.ticket in
    let begins = begins_by g.D.Disk.model g.D.CrashDisk.crashes d.driver c.lemma_begins.ensures in
    let hands = subst (λ r. Hands g.D.Disk.model g.D.CrashDisk.crashes d.driver c.args.step r w) (c.in-Ok-Accepted.is ∙ ap Ok c.in-Ok-Accepted.field-0-is) c.hand_in.ensures in
    λ promised. (c.lost-in-Err-print_pending.ensures.fault, cut_handed g.D.Disk.model g.D.CrashDisk.crashes d w c.args.step c.requires.ready d begins _ _ c.lemma_survives.ensures hands c.lost-in-Err-print_pending.ensures.disk)

pub print_kept-requires : goal.print_kept-requires
print_kept-requires g c =
    let d = c.args.self in
    let w = c.hand_in.new.driver in
    let t = c.in-Ok-Repeated.ticket in
    let begins = begins_by g.D.Disk.model g.D.CrashDisk.crashes d.driver c.lemma_begins.ensures in
    let hands = subst (λ r. Hands g.D.Disk.model g.D.CrashDisk.crashes d.driver c.args.step r w) (c.in-Ok-Repeated.is ∙ ap Ok c.in-Ok-Repeated.field-0-is) c.hand_in.ensures in
    rw c.ledger.ensures (repeated_granted d.driver.ledger w.ledger c.args.step t hands.handed)

pub returns-in-Ok-print_kept-clause-reported : goal.returns-in-Ok-print_kept-clause-reported
returns-in-Ok-print_kept-clause-reported g c =
    let d = c.args.self in
    let w = c.hand_in.new.driver in
    let t = c.in-Ok-Repeated.ticket in
    let begins = begins_by g.D.Disk.model g.D.CrashDisk.crashes d.driver c.lemma_begins.ensures in
    let hands = subst (λ r. Hands g.D.Disk.model g.D.CrashDisk.crashes d.driver c.args.step r w) (c.in-Ok-Repeated.is ∙ ap Ok c.in-Ok-Repeated.field-0-is) c.hand_in.ensures in
    let text = c.in-Ok-print_kept.ensures ∙ ap (λ (l : LedgerState g.row.D.Denot). string_bytes c.args.text.now ++ kept_line (settled_count l.log) (reply_of t)) c.ledger.ensures in
    (kept_line (settled_count w.ledger.log) (reply_of t), (text, λ promised. carries_repeat g.D.Disk.model g.D.CrashDisk.crashes d w c.args.step c.requires.ready _ begins refl refl t hands refl))

pub returns-in-Err-print_kept-clause-cut : goal.returns-in-Err-print_kept-clause-cut
returns-in-Err-print_kept-clause-cut g c =
    let d = c.args.self in
    let w = c.hand_in.new.driver in
    let t = c.in-Ok-Repeated.ticket in
    let begins = begins_by g.D.Disk.model g.D.CrashDisk.crashes d.driver c.lemma_begins.ensures in
    let hands = subst (λ r. Hands g.D.Disk.model g.D.CrashDisk.crashes d.driver c.args.step r w) (c.in-Ok-Repeated.is ∙ ap Ok c.in-Ok-Repeated.field-0-is) c.hand_in.ensures in
    λ promised. (c.lost-in-Err-print_kept.ensures.fault, cut_handed g.D.Disk.model g.D.CrashDisk.crashes d w c.args.step c.requires.ready d begins _ _ c.lemma_survives.ensures hands c.lost-in-Err-print_kept.ensures.disk)

pub returns-in-Err-OutOfMemory-clause-cut : goal.returns-in-Err-OutOfMemory-clause-cut
returns-in-Err-OutOfMemory-clause-cut g c promised =
    let d = c.args.self in
    let w = c.hand_in.new.driver in
    let begins = begins_by g.D.Disk.model g.D.CrashDisk.crashes d.driver c.lemma_begins.ensures in
    (c.lost-in-Err-OutOfMemory.ensures.fault, cut_handed g.D.Disk.model g.D.CrashDisk.crashes d w c.args.step c.requires.ready d begins c.hand_in.result _ c.lemma_survives.ensures c.hand_in.ensures c.lost-in-Err-OutOfMemory.ensures.disk)

pub returns-in-Ok-print_refusal-clause-ready : goal.returns-in-Ok-print_refusal-clause-ready
returns-in-Ok-print_refusal-clause-ready g c =
    let d = c.args.self in
    let w = c.hand_in.new.driver in
    let e = c.in-Err.refusal in
    let begins = begins_by g.D.Disk.model g.D.CrashDisk.crashes d.driver c.lemma_begins.ensures in
    let hands = subst (λ r. Hands g.D.Disk.model g.D.CrashDisk.crashes d.driver c.args.step r w) c.in-Err.is c.hand_in.ensures in
    kept_ready g.D.Disk.model g.D.CrashDisk.crashes d w c.args.step c.requires.ready c.reserve.new.self.items hands.flight hands.handed.now (search rules)

pub returns-in-Ok-print_refusal-clause-reported : goal.returns-in-Ok-print_refusal-clause-reported
returns-in-Ok-print_refusal-clause-reported g c =
    let d = c.args.self in
    let w = c.hand_in.new.driver in
    let e = c.in-Err.refusal in
    let begins = begins_by g.D.Disk.model g.D.CrashDisk.crashes d.driver c.lemma_begins.ensures in
    let hands = subst (λ r. Hands g.D.Disk.model g.D.CrashDisk.crashes d.driver c.args.step r w) c.in-Err.is c.hand_in.ensures in
    let other : e ≢ OutOfMemory = search rules in
    let text : string_bytes c.print_refusal.new.text ≡ string_bytes c.args.text.now ++ refusal_line e = search rules in
    (refusal_line e, (text, λ promised. carries_refusal g.D.Disk.model g.D.CrashDisk.crashes d w c.args.step c.requires.ready _ begins refl refl e hands refl other))

pub returns-in-Err-print_refusal-clause-cut : goal.returns-in-Err-print_refusal-clause-cut
returns-in-Err-print_refusal-clause-cut g c =
    let d = c.args.self in
    let w = c.hand_in.new.driver in
    let e = c.in-Err.refusal in
    let begins = begins_by g.D.Disk.model g.D.CrashDisk.crashes d.driver c.lemma_begins.ensures in
    let hands = subst (λ r. Hands g.D.Disk.model g.D.CrashDisk.crashes d.driver c.args.step r w) c.in-Err.is c.hand_in.ensures in
    λ promised. (c.lost-in-Err-print_refusal.ensures.fault, cut_handed g.D.Disk.model g.D.CrashDisk.crashes d w c.args.step c.requires.ready d begins _ _ c.lemma_survives.ensures hands c.lost-in-Err-print_refusal.ensures.disk)
