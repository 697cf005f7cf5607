use Rattle.std.proofs.Common.{◌≡◌, List, [], ◌∷◌, ◌++◌, codes, sym, ap, ◌∙◌, append_assoc}
use Rattle.std.proofs.lemmas.Result.{on_ok_weaker}
use Rattle.std.specs.Duration.{as_nanos}
use Rattle.json.specs.Json.{Members}
use Rattle.json.specs.Token as token
use Rattle.json.specs.Token.{Token}
use Rattle.json.specs.Tree.{members_tokens}
use Rattle.proxy_audit.specs.Lines.{line_member, members_of, seconds_member, who_member}
use Rattle.proxy_audit.specs.declared.event.Event.{Event}
use Rattle.proxy_audit.proofs.line.write_members.Goals as goal

pub returns-in_ok-write_text-in-Unanswered-clause-ok : goal.returns-in_ok-write_text-in-Unanswered-clause-ok
returns-in_ok-write_text-in-Unanswered-clause-ok c =
    let name : List Token = token.key (codes "event") ∷ token.string (codes "unanswered") ∷ [] in
    let rest : Members = who_member c.in-Unanswered.who.now (line_member c.in-Unanswered.line (seconds_member (as_nanos c.in-Unanswered.waited))) in
    let named : c.write_text-in-Unanswered.new.writer.tokens ≡ c.args.writer.now.tokens ++ name = c.in_ok-write_text-in-Unanswered.ensures.ok in
    on_ok_weaker c.write_unanswered.result
    (λ (e : c.write_unanswered.new.writer.tokens ≡ c.write_text-in-Unanswered.new.writer.tokens ++ members_tokens rest). e
    ∙ ap (λ (ts : List Token). ts ++ members_tokens rest) named
    ∙ append_assoc c.args.writer.now.tokens name (members_tokens rest)
    ∙ ap (λ (v : Event). c.args.writer.now.tokens ++ members_tokens (members_of v)) (sym c.in-Unanswered.is))
    c.write_unanswered.ensures.ok
