use Rattle.std.proofs.Common.{◌≡◌, ◌⊎◌, ◌∙◌, ap, ap₂, length, ℕ, inr, map, refl, rules, string_bytes, sym, true, List, Option, Some, None, IfErr, IfOk, option_and_then, option_map}
use Rattle.std.proofs.lemmas.List.{length-map}
use Rattle.std.specs.Option.{ok_or}
use Rattle.clap.specs.Words.{App, Row, Text, app_of, is_simple, subcommand_of, takes}
use Rattle.clap.proofs.OnLiterals.{clap_on_literals}
use Rattle.coord_commands.specs.Arguments.{AskedCommand, asked_of, asked_of_name, in_arguments, resetd, task_of}
use Rattle.coord_commands.specs.declared.fault.Fault.TheVariants.{OutOfMemory, Usage}
use Rattle.coord_commands.specs.declared.arguments.Task.{Task}
use Rattle.coord_commands.proofs.arguments.read_arguments.Goals as goal

is_simple_resetd : is_simple resetd ≡ true
unfolding clap_on_literals
is_simple_resetd = refl

-- the task is the one that is asked for, or nothing is
ok_of : (found : Option Task) (asked : Option AskedCommand) → option_map asked_of found ≡ asked → IfOk (ok_or found Usage) (λ task. asked ≡ Some (asked_of task))
ok_of None asked is = tt
ok_of (Some task) asked is = sym is

err_of : (arguments : List Text) (found : Option Task) → option_map asked_of found ≡ task_of arguments
    → IfErr (ok_or found Usage) (λ fault. (fault ≡ OutOfMemory) ⊎ ((fault ≡ Usage) × (takes resetd arguments ≡ true → task_of arguments ≡ None)))
err_of arguments None is = inr (refl, λ _. sym is)
err_of arguments (Some task) is = tt

pub returns-in-Ok : goal.returns-in-Ok
returns-in-Ok c =
    let arguments = map (λ s. string_bytes s) c.args.arguments.now in
    let program_is : app_of c.in_ok-program.program ≡ resetd = search rules in
    let found = c.in-Ok.ensures.matches (ap is_simple program_is ∙ is_simple_resetd) in
    let command = found.1 ∙ ap (λ (a : App). subcommand_of a arguments) program_is in
    let count : length c.args.arguments.now ≡ length arguments = sym (length-map c.args.arguments.now (λ s. string_bytes s)) in
    let asked : ℕ → Option (Text × List Row) → Option AskedCommand = λ n f. option_and_then (in_arguments n) (option_and_then (λ (p : Text × List Row). asked_of_name p.0 p.1) f) in
    let is : option_map asked_of c.task_in.result ≡ task_of arguments = c.task_in.ensures ∙ ap₂ asked count command in
    record {
      ok = rw c.ok_or.ensures.value (ok_of c.task_in.result (task_of arguments) is);
      err = rw c.ok_or.ensures.value (err_of arguments c.task_in.result is);
    }

pub returns : goal.returns
returns c =
    let arguments = map (λ s. string_bytes s) c.args.arguments.now in
    let program_is : app_of c.in_ok-program.program ≡ resetd = search rules in
    record {
      ok = tt;
      err = inr (refl, λ taken. absurd (c.in_default.not-OutOfMemory (c.kind.ensures ∙ c.in-Err.ensures.passes (ap (λ a. takes a arguments) program_is ∙ taken))));
    }
