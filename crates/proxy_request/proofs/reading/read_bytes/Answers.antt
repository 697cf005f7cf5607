use Rattle.std.proofs.Common.{◌≡◌, Bool, true, false, cond, refl, ap, ◌∙◌}
use Rattle.std.proofs.lemmas.Str.{is_utf8-from_IsUtf8, IsUtf8-from_is_utf8}
use Rattle.std.specs.Str.{is_utf8}
use Rattle.proxy_request.specs.Requests.{asked_in}
use Rattle.proxy_request.proofs.reading.read_bytes.Goals as goal

second : {A : Type 0} (b : Bool) (x y : A) → (b ≡ true → ⊥) → y ≡ cond b x y
second true x y h = absurd (h refl)
second false x y h = refl

pub returns-in-Ok-clause-value : goal.returns-in-Ok-clause-value
returns-in-Ok-clause-value c = λ memory. rw (is_utf8-from_IsUtf8 c.args.bytes.now c.in-Ok.ensures.cases.1) (c.read_text.ensures memory ∙ ap asked_in c.in-Ok.ensures.cases.0)

pub returns-in-Err-clause-value : goal.returns-in-Err-clause-value
returns-in-Err-clause-value c = λ _. second (is_utf8 c.args.bytes.now) _ _ (λ e. c.in-Err.ensures.cases.0 (IsUtf8-from_is_utf8 c.args.bytes.now e))
