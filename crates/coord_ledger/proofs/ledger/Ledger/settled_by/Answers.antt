use Rattle.std.proofs.Common.{◌+◌, rules, ◌≡◌, length, ap, ◌∙◌, arith}
use Rattle.coord_ledger.specs.code.Holding.{listed}
use Rattle.coord_ledger.specs.Facade.{FlightState, IsOut, LedgerState, Log, settled_count}
use Rattle.coord_ledger.proofs.follows.IsOut.{given_within, gives_out, ledger_of}
use Rattle.coord_ledger.proofs.ledger.Ledger.settled_by.Goals as goal

pub released-requires-clause-within : goal.released-requires-clause-within
released-requires-clause-within g c =
    let log : Log = record { base = c.self.inside.base; trail = c.self.inside.trail.items; settled = c.self.inside.done; doubt = c.self.inside.doubt } in
    let l : LedgerState g.row.D.Denot = ledger_of log c.self.inside.out c.self.inside.store in
    let own : IsOut l c.args.flight.now = rw c.self.view_is c.requires.own in
    omega (arith, given_within log _ _ _ _ _ c.args.flight.now own c.self.inside.given.items c.self.invariant, ap (λ (f : FlightState g.row.D.Denot). length f.steps) c.flight.view_is)

pub returns-in-Ok-clause-released : goal.returns-in-Ok-clause-released
returns-in-Ok-clause-released g c =
    let log : Log = record { base = c.self.inside.base; trail = c.self.inside.trail.items; settled = c.self.inside.done; doubt = c.self.inside.doubt } in
    let l : LedgerState g.row.D.Denot = ledger_of log c.self.inside.out c.self.inside.store in
    let own : IsOut l c.args.flight.now = rw c.self.view_is c.requires.own in
    let same_count = ap (λ (x : LedgerState g.row.D.Denot). settled_count x.log) c.self.view_is in
    let first = 1 + c.settled_count-first.result in
    let number : first ≡ settled_count log + 1 = omega (arith, c.settled_count-first.ensures.value, same_count) in
    let size : c.len.result ≡ length c.flight.inside.steps.items = search rules in
    let all = size ∙ ap (λ (x : FlightState g.row.D.Denot). length x.steps) c.flight.view_is in
    c.in-Ok.ensures ∙ gives_out log _ _ _ _ _ c.args.flight.now own (listed c.self.inside.given.items) first c.len.result c.self.invariant number all
