use Rattle.std.proofs.Common.{arith}
use Rattle.std.proofs.lemmas.Bool.Decides.{nat_tests}
use Rattle.coord_world.specs.protocol.Rows.{listed}
use Rattle.coord_codec.proofs.WorldGrammars.{world_grammar}
use Rattle.coord_codec.proofs.WorldRows.{rows_in}
use Rattle.coord_codec.proofs.world.decode.Goals as goal

pub returns-in-Ok-2-clause-fit : goal.returns-in-Ok-2-clause-fit
returns-in-Ok-2-clause-fit c =
    rows_in c.in-Some.known (listed c.in-Ok.field-0) (grind (arith, nat_tests)) ((world_grammar c.in-Some.known).takes c.args.bytes.now (listed c.in-Ok.field-0) c.read_parts.new.input (λ i. omega (arith, c.type_inv.bytes i)) (rw (← c.new-input.ensures) c.in-Ok.ensures)).fits
