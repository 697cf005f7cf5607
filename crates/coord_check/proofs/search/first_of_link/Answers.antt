-- Letter by letter.
use Rattle.std.proofs.Common.{sym, refl, ap, ◌∙◌, arith}
use Rattle.coord_world.proofs.Facade.{lane-mirrored}
use Rattle.coord_check.specs.Faults.{first}
use Rattle.coord_check.proofs.Faults.{there, none_left, broken_here, broken_back, unbroken_letter}
use Rattle.coord_check.proofs.search.first_of_link.Goals as goal

pub returns-then-not-holds : goal.returns-then-not-holds
returns-then-not-holds c =
    sym (broken_here c.args.world.now c.args.a c.args.b c.loop-letter.letter-index c.loop-letter-test.true _ refl c.in_ok-near.near c.in_ok-far.far c.in_ok-near.ensures.value c.in_ok-far.ensures.value c.holds.result c.holds.ensures c.if-not-holds.true)
    ∙ c.loop-letter.invariant ∙ sym (ap first (there c.args.world.now c.args.a c.args.b c.in_ok-near.ensures.linked))

pub returns-then-not-holds-2 : goal.returns-then-not-holds-2
returns-then-not-holds-2 c =
    sym (broken_back c.args.world.now c.args.a c.args.b c.loop-letter.letter-index c.loop-letter-test.true _ refl c.in_ok-near.near c.in_ok-far.far c.in_ok-near.ensures.value c.in_ok-far.ensures.value c.holds.result c.holds-in-loop-letter.result c.holds.ensures c.if-not-holds.false c.holds-in-loop-letter.ensures c.if-not-holds-2.true)
    ∙ c.loop-letter.invariant ∙ sym (ap first (there c.args.world.now c.args.a c.args.b c.in_ok-near.ensures.linked))

pub loop-letter-preserved : goal.loop-letter-preserved
loop-letter-preserved c =
    unbroken_letter c.args.world.now c.args.a c.args.b c.loop-letter.letter-index c.loop-letter-test.true _ refl c.in_ok-near.near c.in_ok-far.far c.in_ok-near.ensures.value c.in_ok-far.ensures.value c.holds.result c.holds-in-loop-letter.result c.holds.ensures c.if-not-holds.false c.holds-in-loop-letter.ensures c.if-not-holds-2.false
    ∙ c.loop-letter.invariant

pub returns : goal.returns
returns c =
    sym (none_left c.args.world.now c.args.a c.args.b c.loop-letter.letter-index (omega arith) (omega arith))
    ∙ c.loop-letter.invariant ∙ sym (ap first (there c.args.world.now c.args.a c.args.b c.in_ok-near.ensures.linked))

-- A link stands both ways, so the other end is there too.
pub returns-in_err-far : goal.returns-in_err-far
returns-in_err-far c = grind (arith, lane-mirrored c.args.world.now.links c.args.a c.args.b)
