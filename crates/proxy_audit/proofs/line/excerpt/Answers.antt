use Rattle.std.proofs.Common.{◌≡◌, IfOk, string_bytes, rules, ap, ◌∙◌}
use Rattle.std.proofs.lemmas.Result.{IfOk-weaker}
use Rattle.std.specs.Fmt.{format_spec, padded, take_chars}
use Rattle.proxy_audit.proofs.Values.{cut}
use Rattle.proxy_audit.proofs.line.excerpt.Goals as goal

pub returns : goal.returns
returns c =
    let made : IfOk c.format.result (λ t. string_bytes t ≡ padded (format_spec 32 0 0 0 64) (string_bytes c.in_ok-text.text)) = search rules in
    IfOk-weaker c.format.result _ _ (λ t e. e ∙ cut (string_bytes c.in_ok-text.text) ∙ ap (take_chars 64) c.in_ok-text.ensures.lossy) made
