use Rattle.std.proofs.Common.{sym, arith}
use Rattle.coord_drill.proofs.asked.next_number.Goals as goal

pub overflow_add-result : goal.overflow_add-result
overflow_add-result c =
    let within = c.lemma_in_range.ensures.sessions c.args.client c.in-Some.session (sym c.in-Some.ensures) in
    omega (arith, within.last, c.lemma_in_range.ensures.count)
