-- The request that a line makes.
use Rattle.std.specs.Prelude.{ℕ, suc, ◌==◌, ◌&&◌, nat_le, if◌then◌else◌, List, [], ◌∷◌, length, codes, Option, Some, None, option_and_then, Result, Ok, Err}
use Rattle.std.specs.Str.{bytes_eq, is_utf8}
use Rattle.serde_json.specs.Data.{Data, Members}
use Rattle.serde_json.specs.Events.{members_len}
use Rattle.serde_json.specs.Find.{get, as_number, as_object, as_str, as_u64}
use Rattle.serde_json.specs.Read.{read}
use Rattle.coord_lines.specs.Lines.{Line}
use Rattle.coord_types.specs.declared.limits.TheConstants.{MAX_CLIENTS, MAX_GROUPS, MAX_NODES}
use Rattle.coord_types.specs.declared.steps.Command.{Command}
use Rattle.coord_types.specs.declared.steps.Command.TheVariants as command
use Rattle.coord_admin.specs.declared.op.Op.{Op}
use Rattle.coord_admin.specs.declared.op.Op.TheVariants.{Add, Remove, Join, Drop, Reset, Confirm, Show, Resend, Close}
use Rattle.coord_admin.specs.declared.request.Request.{Request}
use Rattle.coord_admin.specs.declared.request.Request.TheVariants as request
use Rattle.coord_admin.specs.declared.fault.LineFault.{LineFault}
use Rattle.coord_admin.specs.declared.fault.LineFault.TheVariants.{TooLong, BadText, BadJson, BadRequest, UnknownOp}

abbrev pub Name : Type 0
Name = List ℕ

abbrev pub ops : List (Name × Op)
ops =
    (codes "add", Add) ∷ (codes "remove", Remove) ∷ (codes "join", Join) ∷ (codes "drop", Drop) ∷ (codes "reset", Reset)
    ∷ (codes "confirm", Confirm) ∷ (codes "show", Show) ∷ (codes "resend", Resend) ∷ (codes "close", Close) ∷ []

abbrev pub named : List (Name × Op) → Name → Option Op
named [] name = None
named (row ∷ rows) name = if bytes_eq name row.0 then Some row.1 else named rows name

abbrev pub op_named : Name → Option Op
op_named name = named ops name

-- the members of an order: its client, its number, and the members of its command
abbrev pub of_order : List Name → List Name
of_order names = codes "client" ∷ codes "number" ∷ names

-- the members of a request with this op, besides `op`
abbrev pub members_of : Op → List Name
members_of Add = of_order (codes "node" ∷ codes "group" ∷ [])
members_of Remove = of_order (codes "node" ∷ [])
members_of Reset = of_order (codes "node" ∷ [])
members_of Join = of_order (codes "a" ∷ codes "b" ∷ [])
members_of Drop = of_order (codes "a" ∷ codes "b" ∷ [])
members_of Confirm = of_order (codes "node" ∷ codes "epoch" ∷ [])
members_of Show = []
members_of Resend = []
members_of Close = []

-- the value of the member with this name, if it is a u64; otherwise None
abbrev pub number_at : Name → Data → Option ℕ
number_at name d = option_and_then as_u64 (option_and_then as_number (get name d))

abbrev pub from_1_to : ℕ → ℕ → Option ℕ
from_1_to most n = if nat_le 1 n && nat_le n most then Some n else None

-- the value of the member with this name, if it is a whole number from 1 to `most`; otherwise None
abbrev pub id_at : Name → ℕ → Data → Option ℕ
id_at name most d = option_and_then (from_1_to most) (number_at name d)

abbrev pub node_at : Name → Data → Option ℕ
node_at name d = id_at name MAX_NODES d

-- the function applied to two optional values; None unless both are present
abbrev pub with_both : {A B C : Type 0} → (A → B → C) → Option A → Option B → Option C
with_both f (Some a) (Some b) = Some (f a b)
with_both f a b = None

-- the command of an order; None if the op is not an order, or if a member is missing or invalid
abbrev pub command_of : Op → Data → Option Command
command_of Add d = with_both (λ u g. command.Add u g) (node_at (codes "node") d) (id_at (codes "group") MAX_GROUPS d)
command_of Remove d = option_and_then (λ u. Some (command.Remove u)) (node_at (codes "node") d)
command_of Join d = with_both (λ a b. command.Join a b) (node_at (codes "a") d) (node_at (codes "b") d)
command_of Drop d = with_both (λ a b. command.Drop a b) (node_at (codes "a") d) (node_at (codes "b") d)
command_of Reset d = option_and_then (λ u. Some (command.Reset u)) (node_at (codes "node") d)
command_of Confirm d = with_both (λ u e. command.Confirm u e) (node_at (codes "node") d) (number_at (codes "epoch") d)
command_of Show d = None
command_of Resend d = None
command_of Close d = None

-- the order; None unless its client, its number and its command are all present
abbrev pub order_of : Option ℕ → Option ℕ → Option Command → Option Request
order_of (Some c) (Some n) (Some x) = Some (request.Order c n x)
order_of c n x = None

-- the request that these members make; None if one of them is missing, is not a whole number, or is out of
-- range
abbrev pub request_by : Op → Data → Option Request
request_by Show d = Some request.Show
request_by Resend d = Some request.Resend
request_by Close d = Some request.Close
request_by op d = order_of (id_at (codes "client") MAX_CLIENTS d) (number_at (codes "number") d) (command_of op d)

abbrev pub len_if : Option Members → ℕ
len_if None = 0
len_if (Some ms) = members_len ms

-- the number of an object's members
abbrev pub member_count : Data → ℕ
member_count d = len_if (as_object d)

abbrev pub or_bad_request : Option Request → Result Request LineFault
or_bad_request None = Err BadRequest
or_bad_request (Some r) = Ok r

-- the request of an object with this op. An object has each name once. So an object with all members of its
-- op, and with the same number of members, has no others.
abbrev pub request_of_op : Data → Option Op → Result Request LineFault
request_of_op d None = Err UnknownOp
request_of_op d (Some op) = if member_count d == suc (length (members_of op)) then or_bad_request (request_by op d) else Err BadRequest

abbrev pub request_named : Data → Option Name → Result Request LineFault
request_named d None = Err BadRequest
request_named d (Some name) = request_of_op d (op_named name)

-- the request of a JSON value; a value that is not an object has no `op`, and so makes no request
abbrev pub request_of : Data → Result Request LineFault
request_of d = request_named d (option_and_then as_str (get (codes "op") d))

abbrev pub request_if : Option Data → Result Request LineFault
request_if None = Err BadJson
request_if (Some d) = request_of d

-- the request of a text; if an object repeats a name, the last value counts
unfoldable pub asked_in : List ℕ → Result Request LineFault
asked_in text = request_if (read text)

-- the request of a line, or the first fault that applies
abbrev pub asked_by : Line → Result Request LineFault
asked_by None = Err TooLong
asked_by (Some bytes) = if is_utf8 bytes then asked_in bytes else Err BadText
