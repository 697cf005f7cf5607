-- A printed policy.
use Rattle.std.specs.Prelude.{ℕ, List, [], ◌++◌, codes, decimal, Option, Some, None, string_bytes}
use Rattle.std.specs.declared.alloc.Global.{Global}
use Rattle.std.specs.declared.vec.Vec.{Vec}
use Rattle.std.specs.List.{flat_map}
use Rattle.proxy_request.specs.Ops.{op_name}
use Rattle.proxy_request.specs.declared.op.Op.{Op}
use Rattle.proxy_policy.specs.declared.rule.Rule.{Rule}

abbrev pub op_texts : List Op → List ℕ
op_texts ops = flat_map (λ op. codes " " ++ op_name op) ops

abbrev pub numbers_text : List ℕ → List ℕ
numbers_text numbers = flat_map (λ n. codes " " ++ decimal n) numbers

abbrev pub limit_text : List ℕ → Option (Vec ℕ Global) → List ℕ
limit_text name None = []
limit_text name (Some numbers) = name ++ numbers_text numbers.items

-- a rule's ops, followed by its clients and nodes if the rule lists any
abbrev pub rule_text : Rule → List ℕ
rule_text rule = op_texts rule.ops.items ++ (limit_text (codes ", as clients") rule.clients ++ limit_text (codes ", at nodes") rule.nodes)

abbrev pub principal_line : Rule → List ℕ → List ℕ
principal_line rule principal = principal ++ (codes ":" ++ (rule_text rule ++ codes "\n"))

abbrev pub rule_lines : Rule → List ℕ
rule_lines rule = flat_map (λ name. principal_line rule (string_bytes name)) rule.principals.items

-- one line for each principal of each rule
abbrev pub listed : List Rule → List ℕ
listed rules = flat_map rule_lines rules
