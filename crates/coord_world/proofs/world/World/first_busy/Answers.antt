use Rattle.std.proofs.Common.{◌≡◌, ◌<◌, arith, nat_lt}
use Rattle.std.proofs.lemmas.Bool.Decides.{nat_tests}
use Rattle.coord_tables.proofs.Cases.{by_test}
use Rattle.coord_types.specs.declared.messages.Mode.TheVariants.{Ready}
use Rattle.coord_world.specs.protocol.NumberedWorld.{state}
use Rattle.coord_world.proofs.legal.EmptyWorld.{none_above, none_below}
use Rattle.coord_world.proofs.world.World.first_busy.Goals as goal

pub loop-number-init : goal.loop-number-init
loop-number-init c = λ v low. none_below c.args.self.now c.lemma_in_range.ensures v low

pub returns-clause-none : goal.returns-clause-none
returns-clause-none c = λ _ v.
    let w = c.args.self.now in
    by_test (nat_lt v c.loop-number.number) (λ _. (state w v).mode ≡ Ready)
    (λ t. let below : v < c.loop-number.number = grind (arith, nat_tests) in c.loop-number.invariant v below)
    (λ t. let above : 64 < v = grind (arith, nat_tests, c.loop-number-test.false) in none_above w c.lemma_in_range.ensures v above)
