-- What the bytes of an answer imply about the number of its order.
use Rattle.std.specs.Prelude.{◌≡◌, ℕ, ◌&&◌, ◌||◌, not, nat_eq, Bool, true, false, List, codes}
use Rattle.std.specs.List.{AllByRecursion, starts_with}
use Rattle.std.specs.Str.{bytes_eq}
use Rattle.serde_json.specs.Written.{compact_text}
use Rattle.coord_types.specs.declared.refusals.Refusal.{Refusal}
use Rattle.coord_types.specs.declared.refusals.Refusal.TheVariants.{Stopped, OutOfMemory, OutOfTurn, NumberReused, PendingFull}
use Rattle.coord_admin.specs.Replies.{reply}
use Rattle.coord_admin.specs.declared.answer.Answer.TheVariants.{Replied, Refused}
use Rattle.coord_wire.specs.AnswerLine.{kinds, refusals}

abbrev pub is_out_of_turn : List ℕ → Bool
is_out_of_turn line = bytes_eq line (codes "{\"name\":\"OutOfTurn\",\"refused\":4}")

abbrev pub refuses_number : List ℕ → Bool
refuses_number line = is_out_of_turn line || bytes_eq line (codes "{\"name\":\"NumberReused\",\"refused\":5}")

abbrev pub is_reply : List ℕ → Bool
is_reply line = starts_with nat_eq line (codes "{\"kind\":\"")

abbrev pub is_of_number : Refusal → Bool
is_of_number OutOfTurn = true
is_of_number NumberReused = true
is_of_number r = false

abbrev pub is_refusal : List ℕ → Bool
is_refusal line =
    starts_with nat_eq line (codes "{\"name\":\"")
    && not (refuses_number line)
    && not (bytes_eq line (codes "{\"name\":\"Stopped\",\"refused\":1}"))
    && not (bytes_eq line (codes "{\"name\":\"OutOfMemory\",\"refused\":2}"))
    && not (bytes_eq line (codes "{\"name\":\"PendingFull\",\"refused\":20}"))

-- whether a refusal concerns the order itself, and not its number (OutOfTurn, NumberReused) or the state of the
-- server (Stopped, OutOfMemory, PendingFull)
abbrev pub is_of_order : Refusal → Bool
is_of_order Stopped = false
is_of_order OutOfMemory = false
is_of_order OutOfTurn = false
is_of_order NumberReused = false
is_of_order PendingFull = false
is_of_order r = true

-- The tests on an answer's bytes classify each reply to an order and each refusal by its meaning.
pub record AnswersAreClassified : Type 0 where
  pub replies : AllByRecursion (λ row. (step : ℕ) → is_reply (compact_text (reply (Replied (record { step = step; kind = row.1 })))) ≡ true) kinds
  pub refusals : AllByRecursion (λ row. (is_reply (compact_text (reply (Refused row.1))) ≡ false) × (refuses_number (compact_text (reply (Refused row.1))) ≡ is_of_number row.1) × (is_refusal (compact_text (reply (Refused row.1))) ≡ is_of_order row.1)) refusals
