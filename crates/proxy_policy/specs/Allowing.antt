-- The requests that a policy allows.
use Rattle.std.specs.Prelude.{ℕ, ◌==◌, ◌&&◌, not, Bool, true, false, List, Option, Some, None, string_bytes}
use Rattle.std.specs.declared.vec.Vec.{Vec}
use Rattle.std.specs.declared.alloc.Global.{Global}
use Rattle.std.specs.List.{list_any}
use Rattle.std.specs.Str.{bytes_eq}
use Rattle.proxy_request.specs.Ops.{same_op}
use Rattle.proxy_request.specs.Requests.{client_of, first_node_of, op_of, second_node_of}
use Rattle.proxy_request.specs.declared.request.TheConstants.{PROXY_CLIENT}
use Rattle.proxy_request.specs.declared.request.Request.{Request}
use Rattle.proxy_request.specs.declared.op.Op.{Op}
use Rattle.proxy_request.specs.declared.op.Op.TheVariants.{Show, Watch}
use Rattle.proxy_policy.specs.declared.rule.Rule.{Rule}

abbrev pub is_proxy_client : Option ℕ → Bool
is_proxy_client None = false
is_proxy_client (Some c) = c == PROXY_CLIENT

-- whether a rule's list of clients permits the client of a request: None permits every client, and every list permits a
-- request without a client; may_name is the same for nodes
abbrev pub may_use : Option (Vec ℕ Global) → Option ℕ → Bool
may_use None one = true
may_use (Some all) None = true
may_use (Some all) (Some c) = list_any (λ each. each == c) all.items

abbrev pub may_name : Option (Vec ℕ Global) → Option ℕ → Bool
may_name None one = true
may_name (Some all) None = true
may_name (Some all) (Some u) = list_any (λ each. each == u) all.items

-- whether a rule lists the principal and the request's op, and permits the request's client and each node that the
-- request names
abbrev pub rule_allows : Rule → List ℕ → Request → Bool
rule_allows rule principal r =
    list_any (λ name. bytes_eq (string_bytes name) principal) rule.principals.items
    && list_any (λ each. same_op each (op_of r)) rule.ops.items
    && may_use rule.clients (client_of r)
    && may_name rule.nodes (first_node_of r)
    && may_name rule.nodes (second_node_of r)

-- whether some rule allows the request, and the request does not use the proxy's client
abbrev pub allows : List Rule → List ℕ → Request → Bool
allows rules principal r = not (is_proxy_client (client_of r)) && list_any (λ rule. rule_allows rule principal r) rules

-- whether an op does more than show the nodes and links
abbrev pub is_order_op : Op → Bool
is_order_op Show = false
is_order_op Watch = false
is_order_op op = true

abbrev pub lets_order : Rule → List ℕ → Bool
lets_order rule principal = list_any (λ name. bytes_eq (string_bytes name) principal) rule.principals.items && list_any is_order_op rule.ops.items

-- whether some rule lists the principal and such an op
abbrev pub may_order : List Rule → List ℕ → Bool
may_order rules principal = list_any (λ rule. lets_order rule principal) rules
