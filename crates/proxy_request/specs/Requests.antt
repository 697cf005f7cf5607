-- The requests to the proxy, and the lines that make them.
use Rattle.std.specs.Prelude.{ℕ, ◌==◌, ◌&&◌, if◌then◌else◌, Bool, true, false, List, codes, Option, Some, None, option_and_then, Result, Ok, Err}
use Rattle.std.specs.Str.{bytes_eq, is_utf8}
use Rattle.serde_json.specs.Data.{Data}
use Rattle.serde_json.specs.Find.{get, as_str}
use Rattle.serde_json.specs.Read.{read}
use Rattle.coord_lines.specs.Lines.{Line}
use Rattle.coord_types.specs.declared.steps.Command.{Command}
use Rattle.coord_types.specs.declared.steps.Command.TheVariants as command
use Rattle.coord_admin.specs.Requests as admin
use Rattle.coord_admin.specs.declared.request.Request as admin_request
use Rattle.coord_admin.specs.declared.request.Request.TheVariants as server
use Rattle.coord_admin.specs.declared.fault.LineFault.{LineFault}
use Rattle.coord_admin.specs.declared.fault.LineFault.TheVariants.{TooLong, BadText, BadJson, BadRequest}
use Rattle.proxy_request.specs.declared.op.Op.{Op}
use Rattle.proxy_request.specs.declared.op.Op.TheVariants as op
use Rattle.proxy_request.specs.declared.request.Request.{Request}
use Rattle.proxy_request.specs.declared.request.Request.TheVariants.{Order, Confirm, Reset, ResetAt, Show, Watch, Resend, Close}

-- ---- reading

-- a request of the server as a request to the proxy
abbrev pub of_server : admin_request.Request → Request
of_server (server.Order c n x) = Order c n x
of_server server.Show = Show
of_server server.Resend = Resend
of_server server.Close = Close

abbrev pub from_server : Result admin_request.Request LineFault → Result Request LineFault
from_server (Ok r) = Ok (of_server r)
from_server (Err f) = Err f

abbrev pub or_bad_request : Option Request → Result Request LineFault
or_bad_request None = Err BadRequest
or_bad_request (Some r) = Ok r

abbrev pub confirm_of : Data → Option Request
confirm_of d = admin.with_both (λ u e. Confirm u e) (admin.node_at (codes "node") d) (admin.number_at (codes "epoch") d)

abbrev pub reset_of : Data → Option Request
reset_of d = option_and_then (λ u. Some (Reset u)) (admin.node_at (codes "node") d)

abbrev pub reset_at_of : Data → Option Request
reset_at_of d = admin.with_both (λ u e. ResetAt u e) (admin.node_at (codes "node") d) (admin.number_at (codes "epoch") d)

-- The request in a JSON object with this op and this number of members. The number distinguishes the forms that only
-- the proxy accepts from the server's forms.
abbrev pub request_by : List ℕ → ℕ → Data → Result Request LineFault
request_by name members d =
    if bytes_eq name (codes "watch") then (if members == 1 then Ok Watch else Err BadRequest)
    else (if bytes_eq name (codes "confirm") && members == 3 then or_bad_request (confirm_of d)
    else (if bytes_eq name (codes "reset") && members == 2 then or_bad_request (reset_of d)
    else (if bytes_eq name (codes "reset") && members == 3 then or_bad_request (reset_at_of d)
    else from_server (admin.request_of d))))

abbrev pub request_named : Data → Option (List ℕ) → Result Request LineFault
request_named d None = Err BadRequest
request_named d (Some name) = request_by name (admin.member_count d) d

-- the request in a JSON value; a value that is not an object has no `op`, so it is no request
abbrev pub request_of : Data → Result Request LineFault
request_of d = request_named d (option_and_then as_str (get (codes "op") d))

abbrev pub request_if : Option Data → Result Request LineFault
request_if None = Err BadJson
request_if (Some d) = request_of d

unfoldable pub asked_in : List ℕ → Result Request LineFault
asked_in text = request_if (read text)

-- the request in a line, or the first fault that applies
abbrev pub asked_by : Line → Result Request LineFault
asked_by None = Err TooLong
asked_by (Some bytes) = if is_utf8 bytes then asked_in bytes else Err BadText

-- ---- properties of a request

abbrev pub command_op : Command → Op
command_op (command.Add u g) = op.Add
command_op (command.Remove u) = op.Remove
command_op (command.Join a b) = op.Join
command_op (command.Drop a b) = op.Drop
command_op (command.Reset u) = op.Reset
command_op (command.Confirm u e) = op.Confirm

-- the name of a request in a policy
abbrev pub op_of : Request → Op
op_of (Order c n x) = command_op x
op_of (Confirm u e) = op.Confirm
op_of (Reset u) = op.Reset
op_of (ResetAt u e) = op.Reset
op_of Show = op.Show
op_of Watch = op.Watch
op_of Resend = op.Resend
op_of Close = op.Close

-- the client that a request names
abbrev pub client_of : Request → Option ℕ
client_of (Order c n x) = Some c
client_of r = None

abbrev pub command_node : Command → ℕ
command_node (command.Add u g) = u
command_node (command.Remove u) = u
command_node (command.Join a b) = a
command_node (command.Drop a b) = a
command_node (command.Reset u) = u
command_node (command.Confirm u e) = u

-- the first node that a request names; second_node_of is the other end of a link
abbrev pub first_node_of : Request → Option ℕ
first_node_of (Order c n x) = Some (command_node x)
first_node_of (Confirm u e) = Some u
first_node_of (Reset u) = Some u
first_node_of (ResetAt u e) = Some u
first_node_of r = None

abbrev pub far_node : Command → Option ℕ
far_node (command.Join a b) = Some b
far_node (command.Drop a b) = Some b
far_node x = None

abbrev pub second_node_of : Request → Option ℕ
second_node_of (Order c n x) = far_node x
second_node_of r = None

-- whether a request changes nothing in the server
abbrev pub is_query : Request → Bool
is_query Show = true
is_query Watch = true
is_query r = false

-- whether a request must not be sent to the server a second time
abbrev pub is_once : Request → Bool
is_once Close = true
is_once r = false

-- the command of an order that names no client and no number; the epoch of a reset is not part of the command
abbrev pub unnumbered_command : Request → Option Command
unnumbered_command (Confirm u e) = Some (command.Confirm u e)
unnumbered_command (Reset u) = Some (command.Reset u)
unnumbered_command (ResetAt u e) = Some (command.Reset u)
unnumbered_command r = None
