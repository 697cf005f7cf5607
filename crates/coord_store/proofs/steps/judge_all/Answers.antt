use Rattle.std.proofs.Common.{◌≡◌, ◌<◌, true, take, drop, ◌+◌, refl, inr, sym, ap, subst, ◌∙◌, arith}
use Rattle.std.proofs.lemmas.List.{length-take-le}
use Rattle.coord_world.specs.Facade.{IsFresh, World, next}
use Rattle.coord_world.proofs.Facade.{itself}
use Rattle.coord_store.specs.Facade.{AllFresh, how_many_out}
use Rattle.coord_store.proofs.Freshness.{fold-take, fresh-push, fresh_is_out, fresh_over, out_below, out_further, split_at, take-push}
use Rattle.coord_store.proofs.steps.judge_all.Goals as goal

pub returns-then-not-is_fresh-clause-fault : goal.returns-then-not-is_fresh-clause-fault
returns-then-not-is_fresh-clause-fault c =
    let s = c.index-steps-index.result in
    let i = c.loop-index.index in
    let steps = c.args.steps.now in
    let w = c.args.world.now in
    inr (
      i,
      refl,
      record {
        front = take i steps;
        refused = s;
        rest = drop (i + 1) steps;
        split = split_at steps i s c.loop-index-test.true c.index-steps-index.is;
        number = length-take-le i steps (omega arith);
        fresh = c.loop-index.invariant.1;
        stops = λ fresh.
            let taken : IsFresh c.loop-index.world w s = subst (λ x. IsFresh x w s) (sym c.loop-index.invariant.0) fresh in
            let below = out_further steps w i s c.loop-index.invariant.3 c.loop-index-test.true c.index-steps-index.is (fresh_is_out c.loop-index.world w s taken) in
            let judged = c.is_fresh.ensures.1 (rw c.how_many_out-out.ensures below, itself c.loop-index.world w s taken) in absurd cc;
      },
    )

pub loop-index-preserved : goal.loop-index-preserved
loop-index-preserved c =
    let s = c.index-steps-index.result in
    let i = c.loop-index.index in
    let steps = c.args.steps.now in
    let w = c.args.world.now in
    let judged : c.is_fresh.result ≡ true = cc in
    let is = c.is_fresh.ensures.0 judged in
    let below : i < how_many_out w steps = rw (sym c.how_many_out-out.ensures) is.0 in
    let fresh = subst (λ x. IsFresh x w s) c.loop-index.invariant.0 (fresh_over c.loop-index.world w s (out_below steps w i s below c.index-steps-index.is) is.1) in (
      c.in_ok-apply.ensures.world ∙ ap (λ x. next x s) c.loop-index.invariant.0 ∙ sym (fold-take steps w i s c.loop-index-test.true c.index-steps-index.is),
      subst (AllFresh w w) (sym (take-push steps i s c.loop-index-test.true c.index-steps-index.is)) (fresh-push (take i steps) w w s c.loop-index.invariant.1 fresh),
      c.apply.ensures.legal,
      omega (arith, below),
    )
