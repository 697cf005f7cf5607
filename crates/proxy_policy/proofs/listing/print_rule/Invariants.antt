use Rattle.std.proofs.Common.{◌≡◌, ◌++◌, take, string_bytes}
use Rattle.std.specs.List.{flat_map}
use Rattle.proxy_policy.specs.Listing.{principal_line}
use Rattle.proxy_policy.proofs.listing.print_rule.Given as goal

abbrev pub invariant-loop-principal : goal.invariant-loop-principal
invariant-loop-principal l =
    string_bytes l.text ≡ string_bytes l.initial.text ++ flat_map (λ name. principal_line l.rule (string_bytes name)) (take l.principal-index l.rule.principals.items)
