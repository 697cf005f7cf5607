use Rattle.std.proofs.Common.{◌≡◌, drop, string_bytes}
use Rattle.std.specs.List.{list_any}
use Rattle.std.specs.Str.{bytes_eq}
use Rattle.proxy_policy.proofs.allowing.is_for.Given as goal

abbrev pub invariant-loop-name : goal.invariant-loop-name
invariant-loop-name l = list_any (λ name. bytes_eq (string_bytes name) l.principal) l.principals ≡ list_any (λ name. bytes_eq (string_bytes name) l.principal) (drop l.name-index l.principals)
