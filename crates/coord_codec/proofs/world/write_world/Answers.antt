use Rattle.std.proofs.Common.{arith}
use Rattle.coord_world.specs.protocol.Rows.{rows_of}
use Rattle.coord_world.proofs.Facade.{rows_have_few_aborts, rows_of_world_fit}
use Rattle.coord_codec.proofs.Lengths.{length-world}
use Rattle.coord_codec.proofs.world.write_world.Goals as goal

pub returns-clause-len : goal.returns-clause-len
returns-clause-len c = λ legal.
    let w = c.args.written.now in
    let range = c.lemma_in_range.ensures in
    let most = length-world (rows_of w) (rows_of_world_fit w range) (rows_have_few_aborts w range legal) in
    rw (c.in_ok-put_world.ensures, c.in_ok-out.ensures.items) (omega (arith, most))

pub returns-clause-most : goal.returns-clause-most
returns-clause-most c = λ legal.
    let w = c.args.written.now in
    let range = c.lemma_in_range.ensures in
    let most = length-world (rows_of w) (rows_of_world_fit w range) (rows_have_few_aborts w range legal) in
    rw (c.in_ok-put_world.ensures, c.in_ok-out.ensures.items) (omega (arith, most))
