use Rattle.std.proofs.Common.{◌≡◌, ◌<◌, ◌∙◌, true, length, Option, None, Some, is_some, refl, sym, ap, rules, arith}
use Rattle.std.proofs.lemmas.List.{length-drop, length-take}
use Rattle.coord_types.specs.declared.limits.TheConstants.{MAX_BATCH_STEPS}
use Rattle.coord_store.specs.Kept.{Kept}
use Rattle.coord_ledger.specs.code.Holding.{disk_at}
use Rattle.coord_ledger.specs.Facade.{LedgerState, pending}
use Rattle.coord_ledger.proofs.ledger.Ledger.begin_flush.Goals as goal

has_disk : {D : Type 0} (store : Option (Kept D)) → is_some store ≡ true → is_some (disk_at store) ≡ true
has_disk None there = there
has_disk (Some kept) there = refl

pub send_out-requires-clause-home : goal.send_out-requires-clause-home
send_out-requires-clause-home g c =
    let there : is_some c.self.inside.store ≡ true = search rules in
    sym (ap (λ (l : LedgerState g.row.D.Denot). is_some l.disk) c.self.view_is) ∙ has_disk c.self.inside.store there

-- some step is pending, so one goes out
pub send_out-requires-clause-some : goal.send_out-requires-clause-some
send_out-requires-clause-some g c =
    let log = c.args.self.now.log in
    let within : c.self.inside.done < length c.self.inside.trail.items = search rules in
    let done = ap (λ (l : LedgerState g.row.D.Denot). l.log.settled) c.self.view_is in
    let many = ap (λ (l : LedgerState g.row.D.Denot). length l.log.trail) c.self.view_is in
    omega (arith, within, done, many, ap length c.in-Ok.ensures.steps, length-take MAX_BATCH_STEPS (pending log), length-drop log.settled log.trail)

pub returns-clause-begun : goal.returns-clause-begun
returns-clause-begun g c home = (c.send_out.ensures.flight, c.send_out.ensures.disk, c.send_out.ensures.out)
