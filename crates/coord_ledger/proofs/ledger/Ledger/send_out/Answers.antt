use Rattle.std.proofs.Common.{◌≡◌, Option, None, Some, length, take, sym, ap, ◌∙◌, subst, rules}
use Rattle.coord_types.specs.declared.limits.TheConstants.{MAX_BATCH_STEPS}
use Rattle.coord_store.specs.Kept.{Kept}
use Rattle.coord_world.specs.protocol.Next.{fold}
use Rattle.coord_ledger.specs.code.Holding.{IsLedger, listed}
use Rattle.coord_ledger.specs.Facade.{LedgerState, Log, pending, settled_world}
use Rattle.coord_ledger.proofs.follows.Kept.{flies, sent_away}
use Rattle.coord_ledger.proofs.ledger.Ledger.send_out.Goals as goal

pub invariant_of-result : goal.invariant_of-result
invariant_of-result g c =
    let log : Log = record { base = c.self.inside.base; trail = c.self.inside.trail.items; settled = c.self.inside.done; doubt = c.self.inside.doubt } in
    let there : c.self.inside.store ≡ Some c.in-Some.store = search rules in
    let going = ap (λ (l : LedgerState g.row.D.Denot). l.log.doubt) c.self.view_is ∙ c.requires.going in
    let same = c.requires.next ∙ sym (ap (λ (l : LedgerState g.row.D.Denot). take MAX_BATCH_STEPS (pending l.log)) c.self.view_is) in
    let led = c.requires.led ∙ sym (ap (λ (l : LedgerState g.row.D.Denot). fold (settled_world l.log) c.args.steps.items) c.self.view_is) in
    let P : Option (Kept g.row.D.Denot) → Type 0 = λ o. IsLedger log c.self.inside.kinds.items (listed c.self.inside.given.items) c.self.inside.front c.self.inside.settled c.self.inside.out o in
    flies log _ _ _ _ _ _ _ _ (subst P there c.self.invariant) going same led c.requires.some

pub invariant_of-self : goal.invariant_of-self
invariant_of-self g c =
    let log : Log = record { base = c.self.inside.base; trail = c.self.inside.trail.items; settled = c.self.inside.done; doubt = c.self.inside.doubt } in
    let going = ap (λ (l : LedgerState g.row.D.Denot). l.log.doubt) c.self.view_is ∙ c.requires.going in
    let same = c.requires.next ∙ sym (ap (λ (l : LedgerState g.row.D.Denot). take MAX_BATCH_STEPS (pending l.log)) c.self.view_is) in
    let gone : c.take.new.self ≡ None = search rules in
    let size : c.len-size.result ≡ length c.args.steps.items = search rules in
    sent_away log _ _ _ _ _ _ _ _ _ c.self.invariant going same c.requires.some gone size
