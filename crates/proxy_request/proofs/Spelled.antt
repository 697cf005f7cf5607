-- A line without its line feed.
use Rattle.std.proofs.Common.{◌≡◌, ℕ, ◌-◌, List, [], ◌∷◌, ◌++◌, length, sym, ap, ◌∙◌, arith}
use Rattle.std.proofs.lemmas.List.{length-append}
use Rattle.std.proofs.Math.Seq.{take-append_seam}
use Rattle.coord_types.specs.declared.steps.Command.{Command}
use Rattle.coord_wire.specs.OrderLine.{command_line}
use Rattle.coord_heard.proofs.Orders.{printed, text_printed}
use Rattle.serde_json.specs.Written.{compact_text}
use Rattle.coord_heard.specs.Heard.{IsCommand}
use Rattle.coord_types.specs.Facade.{CommandInRange}
use Rattle.coord_types.specs.declared.steps.Command.TheVariants.{Add, Remove, Join, Drop, Reset, Confirm}
use Rattle.proxy_request.specs.Spelling.{spelled, without_last}

without_last-snoc : (text : List ℕ) (b : ℕ) → without_last (text ++ (b ∷ [])) ≡ text
without_last-snoc text b =
    let one_less : length (text ++ (b ∷ [])) - 1 ≡ length text = omega (arith, length-append text (b ∷ [])) in
    rw one_less (take-append_seam text (b ∷ []))

-- the line feed that was taken off
pub ended : (n : ℕ) (x : Command) → spelled n x ++ (10 ∷ []) ≡ command_line 15 n x
ended n x =
    let is : command_line 15 n x ≡ compact_text (printed 15 n x) ++ (10 ∷ []) = text_printed 15 n x in
    ap (λ line. without_last line ++ (10 ∷ [])) is ∙ ap (λ text. text ++ (10 ∷ [])) (without_last-snoc (compact_text (printed 15 n x)) 10) ∙ sym is

pub is_command : (x : Command) → CommandInRange x → IsCommand x
is_command (Add u g) is = ((is.0.0, is.0.1), (is.1, is.2))
is_command (Remove u) is = is
is_command (Join a b) is = is
is_command (Drop a b) is = is
is_command (Reset u) is = is
is_command (Confirm u e) is = is
