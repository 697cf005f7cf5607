use Rattle.std.proofs.Common.{◌≡◌, ◌++◌, inl, rules, ap, ◌∙◌}
use Rattle.proxy_audit.specs.Lines.{line_of}
use Rattle.proxy_audit.proofs.pending.Pending.add.Goals as goal

pub returns-else-not-try_add : goal.returns-else-not-try_add
returns-else-not-try_add c =
    let added : c.try_add.new.self.unwritten ≡ c.args.self.now.unwritten ++ line_of c.as_str.result.now c.args.event.now = search rules in
    inl (c.moment.result.bytes, c.moment.ensures, added ∙ ap (λ t. c.args.self.now.unwritten ++ line_of t c.args.event.now) c.as_str.ensures.value, c.try_add.ensures.lost)
