use Rattle.std.proofs.Common.{arith}
use Rattle.coord_world.specs.protocol.Rows.{rows_of}
use Rattle.coord_batch.proofs.Decoded.{version_distinguished}
use Rattle.coord_codec.specs.Worlds.{world}
use Rattle.coord_codec.proofs.WorldGrammars.{world_grammar, world_found, world_only}
use Rattle.coord_codec.proofs.world.read_world.Goals as goal

pub returns-clause-found : goal.returns-clause-found
returns-clause-found c = world_found c.args.version c.args.bytes.now c.assembled.result (λ i. omega (arith, c.type_inv.bytes i)) c.assembled.ensures.ranges c.assembled.ensures.exact

pub returns-clause-only : goal.returns-clause-only
returns-clause-only c = λ w known range spelled. world_only c.args.version c.args.bytes.now c.assembled.result w c.assembled.ensures.ranges known range spelled c.assembled.ensures.exact

pub returns-clause-version : goal.returns-clause-version
returns-clause-version c = version_distinguished world world_grammar c.args.version rows_of c.args.bytes.now c.assembled.result c.assembled.ensures.version c.assembled.ensures.exact
