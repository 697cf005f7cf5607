use Rattle.std.proofs.Common.{codes, rules}
use Rattle.clap.specs.Words.{found_of}
use Rattle.clap.proofs.WalkLemmas.{first_value-rows}
use Rattle.coord_commands.proofs.arguments.task_named.Goals as goal

pub returns-in_err-file : goal.returns-in_err-file
returns-in_err-file c =
    let read = first_value-rows (found_of c.args.matches.now) (codes "file") in
    search (rules, read)

pub returns : goal.returns
returns c =
    let read = first_value-rows (found_of c.args.matches.now) (codes "file") in
    search (rules, read)
