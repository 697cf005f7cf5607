use Rattle.std.proofs.Common.{◌≡◌, ◌+◌, ◌≤◌, false, drop, length, refl, rules, sym, ap, subst, arith, is_none, sum_by}
use Rattle.std.proofs.lemmas.Bool.{false≢true}
use Rattle.std.proofs.lemmas.Bool.Decides.{nat_tests}
use Rattle.std.proofs.lemmas.List.{length-drop}
use Rattle.coord_ledger.specs.machine.Log.{kinds_of, settled_count}
use Rattle.coord_engine.specs.Facade.{AreNoted, GuardedState, IsNamed}
use Rattle.coord_engine.proofs.Naming.{as_many_kinds, named, named_noted}
use Rattle.coord_engine.proofs.Past.{closed_along}
use Rattle.coord_engine.proofs.Since.{since}
use Rattle.coord_engine.proofs.guarded.Guarded.close.Goals as goal

pub returns-then-not-are_noted-clause-refused : goal.returns-then-not-are_noted-clause-refused
returns-then-not-are_noted-clause-refused g c =
    let home : is_none c.args.self.ledger.disk ≡ false = search rules in
    let all : length c.args.shares.items ≡ c.args.self.given = search rules in
    let within : c.args.seen.now ≤ settled_count c.args.self.ledger.log = grind (arith, nat_tests) in
    let n = c.args.self.ledger.log.base.count + c.args.self.start in
    let steps = drop c.args.self.start c.args.self.ledger.log.trail in
    let kinds = drop c.args.self.start (kinds_of c.args.self.ledger.log.base c.args.self.ledger.log.trail) in
    (home, all, within, λ is. false≢true (c.if-not-are_noted.ensures.1 (rw c.deref.ensures.value (named_noted c.args.shares.items n steps kinds is))))

pub returns-clause-may : goal.returns-clause-may
returns-clause-may g c =
    let home : is_none c.args.self.ledger.disk ≡ false = search rules in
    let all : length c.args.shares.items ≡ c.args.self.given = search rules in
    let n = c.args.self.ledger.log.base.count + c.args.self.start in
    let steps = drop c.args.self.start c.args.self.ledger.log.trail in
    let kinds = drop c.args.self.start (kinds_of c.args.self.ledger.log.base c.args.self.ledger.log.trail) in
    let are : AreNoted c.args.shares.items n steps kinds = rw (sym c.deref.ensures.value) (c.if-not-are_noted.ensures.0 refl) in
    let start = ap (λ (x : GuardedState g.row.D.Denot). x.start) c.self.view_is in
    let trail = ap (λ (x : GuardedState g.row.D.Denot). length x.ledger.log.trail) c.self.view_is in
    let count : sum_by (λ notes. length notes) c.args.shares.items ≡ length steps = omega (arith, c.gather.ensures, c.self.invariant.3, start, trail, length-drop c.args.self.start c.args.self.ledger.log.trail) in
    record { home = home; all = all; named = named c.args.shares.items n steps kinds (as_many_kinds c.args.self.ledger.log.base c.args.self.ledger.log.trail c.args.self.start) are count }

pub returns-clause-since : goal.returns-clause-since
returns-clause-since g c =
    let shares = c.args.shares.items in
    let n = c.args.self.ledger.log.base.count + c.args.self.start in
    let steps = drop c.args.self.start c.args.self.ledger.log.trail in
    let kinds = drop c.args.self.start (kinds_of c.args.self.ledger.log.base c.args.self.ledger.log.trail) in
    let are : AreNoted shares n steps kinds = rw (sym c.deref.ensures.value) (c.if-not-are_noted.ensures.0 refl) in
    let start = ap (λ (x : GuardedState g.row.D.Denot). x.start) c.self.view_is in
    let trail = ap (λ (x : GuardedState g.row.D.Denot). length x.ledger.log.trail) c.self.view_is in
    let count : sum_by (λ notes. length notes) shares ≡ length steps = omega (arith, c.gather.ensures, c.self.invariant.3, start, trail, length-drop c.args.self.start c.args.self.ledger.log.trail) in
    let is = subst (λ (x : GuardedState g.row.D.Denot). IsNamed shares (x.ledger.log.base.count + x.start) (drop x.start x.ledger.log.trail) (drop x.start (kinds_of x.ledger.log.base x.ledger.log.trail))) (sym c.self.view_is) (named shares n steps kinds (as_many_kinds c.args.self.ledger.log.base c.args.self.ledger.log.trail c.args.self.start) are count) in
    let inv = c.self.invariant in
    since g.L.Origin.base g.L.Origin.before shares c.self.inside.ledger.log c.self.inside.start c.left_of.result.base c.left_of.result.trail.items inv.4 inv.5 inv.6 is c.left_of.ensures.log.0 c.left_of.ensures.log.1

pub returns-clause-along : goal.returns-clause-along
returns-clause-along g c =
    let inv = c.self.invariant in
    let is = c.left_of.ensures in
    closed_along g.D.Disk.model g.L.Origin.disk g.L.Origin.base c.left_of.result.trail.items c.self.inside.ledger c.left_of.result.store.disk is.store.0 is.log.1 inv.4 inv.8
