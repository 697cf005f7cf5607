use Rattle.std.proofs.Common.{codes, rules}
use Rattle.clap.specs.Words.{found_of}
use Rattle.clap.proofs.WalkLemmas.{first_value-rows}
use Rattle.coord_commands.proofs.arguments.task_of_file.Goals as goal

pub returns-in_err-topology : goal.returns-in_err-topology
returns-in_err-topology c =
    let read = first_value-rows (found_of c.args.matches.now) (codes "topology") in
    search (rules, read)

pub returns-in_err-address : goal.returns-in_err-address
returns-in_err-address c =
    let read = first_value-rows (found_of c.args.matches.now) (codes "address") in
    search (rules, read)

pub returns-in_ok-topology : goal.returns-in_ok-topology
returns-in_ok-topology c =
    let read = first_value-rows (found_of c.args.matches.now) (codes "topology") in
    search (rules, read)

pub returns-in_ok-address : goal.returns-in_ok-address
returns-in_ok-address c =
    let read = first_value-rows (found_of c.args.matches.now) (codes "address") in
    search (rules, read)
