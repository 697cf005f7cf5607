-- Which principals may send which requests: the rules for the proxy's core.
use Rattle.std.specs.Prelude.{◌≡◌, ℕ, ◌-◌, ◌==◌, ◌&&◌, Bool, true, false, is_some, if◌then◌else◌, List, [], map, slice_get, Option, Some, None, option_and_then, Result, Ok, Err, string_bytes}
use Rattle.coord_types.specs.declared.steps.Command.{Command}
use Rattle.coord_types.specs.declared.steps.Command.TheVariants as command
use Rattle.coord_admin.specs.declared.fault.LineFault.{LineFault}
use Rattle.proxy_core.specs.Rules.{Rules}
use Rattle.proxy_policy.specs.declared.rule.Rule.{Rule}
use Rattle.proxy_policy.specs.Allowing.{allows, may_order}
use Rattle.proxy_request.specs.Answers.{is_out_of_turn, is_refusal, is_reply, refuses_number}
use Rattle.proxy_request.specs.declared.request.Request.{Request}
use Rattle.proxy_request.specs.declared.request.Request.TheVariants.{Order, Show, Watch}
use Rattle.proxy_request.specs.declared.request.TheConstants.{PROXY_CLIENT}
use Rattle.proxy_request.specs.Requests.{asked_by, is_once, is_query, unnumbered_command}
use Rattle.proxy_request.specs.Spelling.{spelled}
use Rattle.proxy_access.specs.Resets.{names_epoch, permits}
use Rattle.proxy_access.specs.declared.table.Access.{Access}

abbrev pub access_rules : Access → List Rule
access_rules a = a.policy.rules.items

abbrev pub access_principals : Access → List (List ℕ)
access_principals a = map string_bytes a.principals.items

-- ---- roles

-- The principal of a role: role 1 is the first principal. Role 0 belongs to the proxy's own connection.
abbrev pub principal_of : List (List ℕ) → ℕ → Option (List ℕ)
principal_of names role = if role == 0 then None else slice_get names (role - 1)

-- For a principal that already has a role, the call returns a role of that principal, and the table does not change.
abbrev pub KeepsItsRole : {E : Type 0} → List (List ℕ) → List (List ℕ) → List ℕ → Result (Option ℕ) E → Type 0
KeepsItsRole before after name result = (has : ℕ) → principal_of before has ≡ Some name
    → (role : ℕ) × (principal_of before role ≡ Some name) × (result ≡ Ok (Some role)) × (after ≡ before)

-- whether a command is a probe, which confirms epoch 0. The server always refuses a probe, and the refusal depends on the order's
-- number
abbrev pub is_probe : Command → Bool
is_probe (command.Confirm u e) = e == 0
is_probe x = false

-- whether the proxy itself may send a request: only `show`, or a probe as its own client, which finds the client's last number
abbrev pub is_own : Request → Bool
is_own (Order c n x) = c == PROXY_CLIENT && is_probe x
is_own Show = true
is_own r = false

abbrev pub allows_if : List Rule → Option (List ℕ) → Request → Bool
allows_if rules None r = false
allows_if rules (Some name) r = allows rules name r

abbrev pub may : List Rule → List (List ℕ) → ℕ → Request → Bool
may rules names role r = if role == 0 then is_own r else allows_if rules (principal_of names role) r

abbrev pub may_order_if : List Rule → Option (List ℕ) → Bool
may_order_if rules None = false
may_order_if rules (Some name) = may_order rules name

-- ---- lines

abbrev pub request_or_none : Result Request LineFault → Option Request
request_or_none (Ok r) = Some r
request_or_none (Err fault) = None

-- the request that a line makes, or None if the line has a fault
unfoldable pub request_from : List ℕ → Option Request
request_from line = request_or_none (asked_by (Some line))

-- whether a request is sent to the server; the proxy answers `watch` itself, because the server has no such request
abbrev pub is_for_server : Request → Bool
is_for_server Watch = false
is_for_server r = true

abbrev pub if_request : (Request → Bool) → Option Request → Bool
if_request test None = false
if_request test (Some r) = test r

abbrev pub spelled_if : ℕ → Option Command → List ℕ
spelled_if n None = []
spelled_if n (Some x) = spelled n x

abbrev pub core_rules : List Rule → List (List ℕ) → Rules
core_rules rules names = record {
  allows = λ role line. if_request (λ r. is_for_server r && may rules names role r) (request_from line);
  is_once = λ line. if_request is_once (request_from line);
  is_query = λ line. if_request is_query (request_from line);
  is_unnumbered = λ line. if_request (λ r. is_some (unnumbered_command r)) (request_from line);
  spelled = λ n line. spelled_if n (option_and_then unnumbered_command (request_from line));
  refuses_number = refuses_number;
  uses_number = is_reply;
  is_refusal = is_refusal;
  is_inconclusive = is_out_of_turn;
  needs_view = λ line. if_request names_epoch (request_from line);
  permits = λ view line. if_request (permits view) (request_from line);
}
