use Rattle.std.proofs.Common.{◌≡◌, ◌∙◌, [], ◌∷◌, ap, inl, inr, map, refl, rules, string_bytes, subst, sym, true, Option, None}
use Rattle.clap.specs.Kinds.{IsAmong}
use Rattle.clap.specs.Words.{App, Kinds, app_of, fault_of, is_simple, is_simple_and_free, subcommand_of}
use Rattle.clap.specs.declared.error.kind.ErrorKind.{ErrorKind}
use Rattle.clap.proofs.OnLiterals.{clap_on_literals}
use Rattle.resetd_proxy.specs.Arguments.{AskedTask, Requested, asked_in, asked_of, resetd_proxy, without_fault}
use Rattle.resetd_proxy.proofs.arguments.read_arguments.Goals as goal

is_simple_proxy : is_simple resetd_proxy ≡ true
unfolding clap_on_literals
is_simple_proxy = refl

is_free_proxy : is_simple_and_free resetd_proxy ≡ true
unfolding clap_on_literals
is_free_proxy = refl

refused : (kind : ErrorKind) (before after : Kinds) (asked : Option AskedTask) → before ≡ after → IsAmong kind before → without_fault after asked ≡ None
refused kind [] after asked same among = absurd among
refused kind (first ∷ others) after asked same among = rw (sym same) refl

pub returns-in-Ok : goal.returns-in-Ok
returns-in-Ok c =
    let arguments = map (λ s. string_bytes s) c.args.arguments.now in
    let program_is : app_of c.in_ok-program.program ≡ resetd_proxy = search rules in
    let command = (c.in-Ok.ensures.matches (ap is_simple program_is ∙ is_simple_proxy)).1 ∙ ap (λ (a : App). subcommand_of a arguments) program_is in
    let none : fault_of resetd_proxy arguments ≡ [] = sym (ap (λ (a : App). fault_of a arguments) program_is) ∙ c.in-Ok.ensures.kinds (ap is_simple_and_free program_is ∙ is_free_proxy) in
    let asked = ap asked_in command ∙ sym (ap (λ (kinds : Kinds). without_fault kinds (asked_in (subcommand_of resetd_proxy arguments))) none) in
    subst (λ (each : Option AskedTask). Requested asked_of each c.task_in.result) asked c.task_in.ensures

pub returns : goal.returns
returns c =
    let arguments = map (λ s. string_bytes s) c.args.arguments.now in
    let program_is : app_of c.in_ok-program.program ≡ resetd_proxy = search rules in
    let fault_is = ap (λ (a : App). fault_of a arguments) program_is in
    elim (c.in-Err.ensures.kinds (ap is_simple_and_free program_is ∙ is_free_proxy)) [
      | inl memory ↦ absurd (c.in_default.not-OutOfMemory (c.kind.ensures ∙ memory))
      | inr among ↦ refused _ _ _ _ fault_is among
    ]
