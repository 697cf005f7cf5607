use Rattle.std.proofs.Common.{◌≡◌, ◌<◌, ◌≤◌, length, Some, None, refl, sym, ap, ◌∙◌, subst, rules, slice_index_or, slice_set}
use Rattle.coord_ledger.specs.Facade.{IsCollectable, LedgerState, reply_of}
use Rattle.coord_ledger.proofs.follows.FollowsTickets.{follows_collected, follows_no_ticket, follows_waiting}
use Rattle.coord_ledger.proofs.runs.Calls.{put_back, set_same, spent_is, ticket_past, ticket_within}
use Rattle.coord_ledger.proofs.event_driver.run.Run.collect.Goals as goal

pub returns-then-index-len-clause-answered : goal.returns-then-index-len-clause-answered
returns-then-index-len-clause-answered g c s is follows =
    let tickets = c.args.self.now.tickets in
    let past : length tickets.items ≤ c.args.index = search rules in
    follows_no_ticket c.args.self.now s is follows tickets refl c.args.index (ticket_past tickets.items c.args.index past)

pub returns-in_default-clause-answered : goal.returns-in_default-clause-answered
returns-in_default-clause-answered g c s is follows =
    let items = c.args.self.now.tickets.items in
    let below : c.args.index < length items = search rules in
    let here : c.index_mut.result.now ≡ None = sym c.take.ensures.value ∙ c.in_default.is in
    let was : None ≡ slice_index_or items c.args.index None = rw (sym here) c.index_mut.ensures.value in
    follows_no_ticket c.args.self.now s is follows _ (ap (slice_set items c.args.index) c.take.ensures.after ∙ set_same items c.args.index None was) c.args.index (ticket_within items c.args.index None below was)

pub returns-in-Ok-clause-answered : goal.returns-in-Ok-clause-answered
returns-in-Ok-clause-answered g c s is follows =
    let items = c.args.self.now.tickets.items in
    let ticket = c.in-Some.ticket in
    let below : c.args.index < length items = search rules in
    let here : c.index_mut.result.now ≡ Some ticket = sym c.take.ensures.value ∙ c.in-Some.is in
    let was : Some ticket ≡ slice_index_or items c.args.index (Some ticket) = rw (sym here) c.index_mut.ensures.value in
    let given = subst (λ (l : LedgerState g.row.D.Denot). (c.in-Ok.reply ≡ reply_of ticket) × IsCollectable l.log ticket) c.ledger.ensures c.in-Ok.ensures.settled in
    follows_collected c.args.self.now s is follows c.args.index ticket (ticket_within items c.args.index (Some ticket) below was) _ (ap (slice_set items c.args.index) c.take.ensures.after ∙ spent_is items c.args.index) c.in-Ok.reply given.0 given.1

pub returns-after-replace-clause-answered : goal.returns-after-replace-clause-answered
returns-after-replace-clause-answered g c s is follows =
    let items = c.args.self.now.tickets.items in
    let ticket = c.in-Some.ticket in
    let below : c.args.index < length items = search rules in
    let here : c.index_mut.result.now ≡ Some ticket = sym c.take.ensures.value ∙ c.in-Some.is in
    let was : Some ticket ≡ slice_index_or items c.args.index (Some ticket) = rw (sym here) c.index_mut.ensures.value in
    let given = subst (λ (l : LedgerState g.row.D.Denot). (c.in-Err.ticket ≡ ticket) × ¬ IsCollectable l.log ticket) c.ledger.ensures c.in-Err.ensures.waiting in
    follows_waiting c.args.self.now s is follows c.args.index ticket (ticket_within items c.args.index (Some ticket) below was) _ (put_back items c.args.index (Some ticket) c.take.new.self c.replace.new.self was (c.replace.ensures.after ∙ ap Some given.0)) given.1
