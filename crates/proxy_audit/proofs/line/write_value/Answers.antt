use Rattle.std.proofs.Common.{◌≡◌, List, [], ◌∷◌, ◌++◌, rules, sym, ap, ◌∙◌, append_assoc}
use Rattle.std.proofs.lemmas.Result.{on_ok_weaker}
use Rattle.json.specs.Json.{Json}
use Rattle.json.specs.Token as token
use Rattle.json.specs.Token.{Token}
use Rattle.json.specs.Tree.{json_tokens}
use Rattle.json.specs.Value.{value_view}
use Rattle.proxy_audit.specs.Lines.{value_or_excerpt}
use Rattle.proxy_audit.proofs.Values.{found_value}
use Rattle.proxy_audit.proofs.line.write_value.Goals as goal

pub returns-in_ok-key-in-Ok-clause-ok : goal.returns-in_ok-key-in-Ok-clause-ok
returns-in_ok-key-in-Ok-clause-ok c =
    let read : Json = value_view c.in-Ok.value in
    let name : Token = token.key c.args.name.now in
    let same : value_or_excerpt c.args.bytes.now ≡ read = found_value c.args.bytes.now read c.in-Ok.ensures.ok.0 c.in-Ok.ensures.ok.1 in
    let keyed : c.key.new.self.tokens ≡ c.args.writer.now.tokens ++ name ∷ [] = search rules in
    on_ok_weaker c.value.result
    (λ (e : c.value.new.self.tokens ≡ c.key.new.self.tokens ++ json_tokens read). e
    ∙ ap (λ (ts : List Token). ts ++ json_tokens read) keyed
    ∙ append_assoc c.args.writer.now.tokens (name ∷ []) (json_tokens read)
    ∙ ap (λ (j : Json). c.args.writer.now.tokens ++ name ∷ json_tokens j) (sym same))
    c.value.ensures.ok
