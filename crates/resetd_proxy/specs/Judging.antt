-- What the loop does with a reset that names an epoch, according to a view.
use Rattle.std.specs.Prelude.{◌≡◌, ℕ, List, Option, Some, None}
use Rattle.serde_json.specs.Written.{compact_text}
use Rattle.coord_admin.specs.Replies.{reply}
use Rattle.coord_admin.specs.declared.answer.Answer.TheVariants as answer
use Rattle.coord_types.specs.declared.steps.Kind.TheVariants as kind
use Rattle.proxy_access.specs.declared.resets.Judged.{Judged}
use Rattle.proxy_access.specs.declared.resets.Judged.TheVariants.{Goes, Waits, Joined, Refused}
use Rattle.proxy_loop.specs.declared.gateway.Verdict.{Verdict}
use Rattle.proxy_loop.specs.declared.gateway.Verdict.TheVariants as verdict

-- the line that the proxy answers a reset with, without its line feed; None if the reset goes or waits
abbrev pub answer_to : Judged → Option (List ℕ)
answer_to Goes = None
answer_to Waits = None
answer_to (Joined step) = Some (compact_text (reply (answer.Replied (record { step = step; kind = kind.Joined }))))
answer_to (Refused r) = Some (compact_text (reply (answer.Refused r)))

abbrev pub IsAnswer : Verdict → Option (List ℕ) → Type 0
IsAnswer verdict.Goes text = ⊥
IsAnswer verdict.Waits text = ⊥
IsAnswer (verdict.Answer bytes) text = text ≡ Some bytes.items

-- the verdict that the loop gets from a judgement: the reset goes, waits, or is answered with this line
abbrev pub Gives : Verdict → Judged → Type 0
Gives verdict.Goes j = j ≡ Goes
Gives verdict.Waits j = j ≡ Waits
Gives (verdict.Answer bytes) j = answer_to j ≡ Some bytes.items
