use Rattle.std.proofs.Common.{get_or}
use Rattle.coord_journal.proofs.Halves.{half_refused}
use Rattle.coord_journal.proofs.read.read_half.Goals as goal

pub returns-in-Err-clause-bad : goal.returns-in-Err-clause-bad
returns-in-Err-clause-bad c is content used half =
    half_refused c.args.half.now c.in-Some.snapshot.now c.in-Some.rest.now (get_or c.args.half.now 0 0) c.in-Some.ensures.some (c.in-Err.ensures.bad is) content used half
