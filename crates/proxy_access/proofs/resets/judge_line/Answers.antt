use Rattle.std.proofs.Common.{◌≡◌, ℕ, Bool, true, false, List, cond, refl, subst, IfOk}
use Rattle.std.proofs.lemmas.Str.{is_utf8-from_IsUtf8, IsUtf8-from_is_utf8}
use Rattle.std.specs.Str.{is_utf8}
use Rattle.proxy_access.specs.Resets.{judged_in}
use Rattle.proxy_access.proofs.resets.judge_line.Goals as goal

second : {A : Type 0} (b : Bool) (x y : A) → (b ≡ true → ⊥) → y ≡ cond b x y
second true x y h = absurd (h refl)
second false x y h = refl

pub returns-in-Ok : goal.returns-in-Ok
returns-in-Ok c =
    let P : List ℕ → Type 0 = λ text. IfOk c.judge_text.result (λ judged. judged ≡ judged_in text c.args.node c.args.epoch) in
    rw (is_utf8-from_IsUtf8 c.args.view.now c.in-Ok.ensures.cases.1) (subst P c.in-Ok.ensures.cases.0 c.judge_text.ensures)

pub returns-in-Err : goal.returns-in-Err
returns-in-Err c = second (is_utf8 c.args.view.now) _ _ (λ e. c.in-Err.ensures.cases.0 (IsUtf8-from_is_utf8 c.args.view.now e))
