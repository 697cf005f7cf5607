use Rattle.coord_batch.specs.Facade.{IsBatch, batch, content, is_version, pair}
use Rattle.std.proofs.Common.{◌≡◌, true, Result, Ok, Err, arith, IfOk}
use Rattle.coord_batch.specs.declared.batch.Batch.{Batch}
use Rattle.coord_batch.specs.declared.fault.CodecFault.{CodecFault}
use Rattle.coord_batch.proofs.Batched.{batch_fits, batch_in_range}
use Rattle.coord_batch.proofs.Decoded.{answers_found, answers_only, version_distinguished}
use Rattle.coord_batch.proofs.StepGrammars.{batch_grammar}
use Rattle.coord_batch.proofs.batch.read_batch.Goals as goal

pub returns-clause-found : goal.returns-clause-found
returns-clause-found c = of_result c.decode.result (answers_found batch batch_grammar c.args.version content c.args.bytes.now c.decode.result (λ i. omega (arith, c.type_inv.bytes i)) c.decode.ensures.exact)
  where
    of_result : (r : Result Batch CodecFault) → IfOk r (λ b. (is_version c.args.version ≡ true) × (batch c.args.version).Fits (content b) × (c.args.bytes.now ≡ (batch c.args.version).text (content b))) → IfOk r (λ b. (is_version c.args.version ≡ true) × IsBatch c.args.version b.first b.steps.items × (c.args.bytes.now ≡ (batch c.args.version).text (content b)))
    of_result (Ok b) found = (found.0, batch_in_range c.args.version b.first b.steps.items found.1, found.2)
    of_result (Err e) found = tt

pub returns-clause-only : goal.returns-clause-only
returns-clause-only c = λ first taken known range spelled.
    answers_only batch batch_grammar c.args.version content c.args.bytes.now c.decode.result (pair first taken) known (batch_fits c.args.version first taken range) spelled c.decode.ensures.exact

pub returns-clause-version : goal.returns-clause-version
returns-clause-version c = version_distinguished batch batch_grammar c.args.version content c.args.bytes.now c.decode.result c.decode.ensures.version c.decode.ensures.exact
