use Rattle.std.proofs.Common.{◌≡◌, true, false, ap, sym, ◌∙◌, arith}
use Rattle.coord_store.specs.Facade.{has_given_out, how_many_out}
use Rattle.coord_store.proofs.Freshness.{drop_at}
use Rattle.coord_store.proofs.steps.how_many_out.Goals as goal

pub loop-index-preserved : goal.loop-index-preserved
loop-index-preserved c =
    let s = c.index-steps-index.result in
    let i = c.loop-index.index in
    let settled = c.args.settled.now in
    let at = ap (how_many_out settled) (drop_at c.args.steps.now i s c.loop-index-test.true c.index-steps-index.is) in
    let out : has_given_out settled s ≡ true = cc in
    grind (arith, at, out, c.loop-index.invariant)
