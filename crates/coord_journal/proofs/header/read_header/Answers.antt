use Rattle.std.proofs.Common.{arith}
use Rattle.coord_journal.proofs.header.read_header.Goals as goal

pub returns-in_default-clause-none : goal.returns-in_default-clause-none
returns-in_default-clause-none c _ selector half_size rest header = c.split_header.ensures.none c.in_default.is selector half_size rest (omega (arith, header.size.greatest)) header.spelled
