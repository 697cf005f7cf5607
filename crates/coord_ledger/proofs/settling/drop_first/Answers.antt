use Rattle.std.proofs.Common.{◌≡◌, drop, ap, ◌∙◌, arith}
use Rattle.coord_ledger.specs.code.Holding.{listed}
use Rattle.coord_ledger.proofs.follows.Granted.{listed-drop}
use Rattle.coord_ledger.proofs.settling.drop_first.Goals as goal

pub returns : goal.returns
returns c =
    let all : c.loop-place._place ≡ c.args.size = omega (arith, c.loop-place-test.false) in
    ap listed c.loop-place.invariant ∙ listed-drop c.loop-place._place c.args.given.now.items ∙ ap (λ n. drop n (listed c.args.given.now.items)) all
