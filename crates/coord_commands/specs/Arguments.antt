-- The request that the program's arguments make.
use Rattle.std.specs.Prelude.{ℕ, ◌==◌, length, List, codes, bytes_eq, Option, Some, None, true, if◌then◌else◌, option_and_then, option_map}
use Rattle.clap.specs.Words.{App, Row, Rule, Text, first_of, new_app, new_rule, subcommand_of, with_rule, with_subcommand}
use Rattle.clap.specs.Simple.{on_top}
use Rattle.clap.specs.declared.builder.action.ArgAction.TheVariants.{Set}
use Rattle.coord_commands.specs.declared.arguments.Task.{Task}
use Rattle.coord_commands.specs.declared.arguments.Task.TheVariants as task

-- the requested command, with the arguments after its name
pub data AskedCommand : Type 0 where
  drill : AskedCommand
  check : Text → AskedCommand
  show : Text → AskedCommand
  migrate : Text → AskedCommand
  init : Text → Text → AskedCommand
  serve : Text → Text → AskedCommand

-- the request of a task
abbrev pub asked_of : Task → AskedCommand
asked_of task.Drill = drill
asked_of (task.Check file) = check file.now
asked_of (task.Show file) = show file.now
asked_of (task.Migrate file) = migrate file.now
asked_of (task.Init file topology) = init file.now topology.now
asked_of (task.Serve file address) = serve file.now address.now

-- the number of arguments that this command takes, including the program's name
abbrev pub arguments_for : AskedCommand → ℕ
arguments_for drill = 2
arguments_for (check file) = 3
arguments_for (show file) = 3
arguments_for (migrate file) = 3
arguments_for (init file topology) = 4
arguments_for (serve file address) = 4

-- the request; None if the number of arguments differs from what the command takes
abbrev pub in_arguments : ℕ → AskedCommand → Option AskedCommand
in_arguments count asked = if arguments_for asked == count then Some asked else None

-- the request of a command with a file and, for some commands, a second argument
abbrev pub asked_of_file : Text → Text → List Row → Option AskedCommand
asked_of_file name file rows =
    if bytes_eq name (codes "check") then Some (check file)
    else (if bytes_eq name (codes "show") then Some (show file)
    else (if bytes_eq name (codes "migrate") then Some (migrate file)
    else (if bytes_eq name (codes "init") then option_map (init file) (first_of (codes "topology") rows)
    else (if bytes_eq name (codes "serve") then option_map (serve file) (first_of (codes "address") rows)
    else None))))

-- the request of the named command, with the first value of each of its arguments
abbrev pub asked_of_name : Text → List Row → Option AskedCommand
asked_of_name name rows =
    if bytes_eq name (codes "drill") then Some drill
    else option_and_then (λ file. asked_of_file name file rows) (first_of (codes "file") rows)

-- a required argument
abbrev pub argument_named : Text → Rule
argument_named id = record (new_rule id) { action = Some Set; required = true }

-- the command-line grammar given to `clap`; arguments that it rejects make no request
abbrev pub resetd : App
resetd =
    with_subcommand
    (with_subcommand
    (with_subcommand
    (with_subcommand
    (with_subcommand (with_subcommand (on_top (λ s. record s { subcommand_required = true }) (new_app (codes "resetd"))) (new_app (codes "drill")).top)
    (with_rule (with_rule (new_app (codes "init")) (argument_named (codes "file"))) (argument_named (codes "topology"))).top)
    (with_rule (new_app (codes "check")) (argument_named (codes "file"))).top)
    (with_rule (new_app (codes "show")) (argument_named (codes "file"))).top)
    (with_rule (with_rule (new_app (codes "serve")) (argument_named (codes "file"))) (argument_named (codes "address"))).top)
    (with_rule (new_app (codes "migrate")) (argument_named (codes "file"))).top

-- the request that the program's arguments make: the command that `clap` finds in them. The first
-- argument is the program's name. Arguments that contain anything else, such as `--`, make no request.
abbrev pub task_of : List Text → Option AskedCommand
task_of arguments = option_and_then (in_arguments (length arguments)) (option_and_then (λ found. asked_of_name found.0 found.1) (subcommand_of resetd arguments))
