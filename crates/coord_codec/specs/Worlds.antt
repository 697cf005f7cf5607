-- The grammar of worlds, by version.
use Rattle.std.specs.Prelude.{ℕ, zero, suc, ◌==◌, ◌&&◌, ◌||◌, not, nat_le, nat_lt, Bool, false, List, [], ◌∷◌, Option, Some, None}
use Rattle.coord_link.specs.declared.lane.TheConstants.{PLACES}
use Rattle.coord_types.specs.Facade.{NodeSet, mask_of, mode_from, mode_number, nodes_of}
use Rattle.coord_types.specs.declared.limits.TheConstants.{MAX_CLIENTS, MAX_DEGREE, MAX_LINKS, MAX_NODES, MAX_STEPS}
use Rattle.coord_types.specs.declared.messages.Mode.{Mode}
use Rattle.coord_types.specs.declared.messages.Mode.TheVariants.{Ready, Abort, Converge}
use Rattle.coord_types.specs.declared.messages.Msg.{Msg}
use Rattle.coord_types.specs.declared.steps.Command.{Command}
use Rattle.coord_types.specs.declared.steps.Kind.{Kind}
use Rattle.coord_types.specs.declared.steps.Kind.TheVariants as kinds
use Rattle.coord_link.specs.LaneMachine.{Lane}
use Rattle.coord_world.specs.Facade.{Rows, answers, degree, group_of}
use Rattle.coord_world.specs.declared.rows.parts.NodeRow.{NodeRow}
use Rattle.coord_tables.specs.declared.links.LinkRow.{LinkRow}
use Rattle.coord_world.specs.declared.rows.parts.ClientRow.{ClientRow}
use Rattle.coord_batch.specs.Format.{Format, byte, u64, such_that, followed, ◌&◌, made, counted}
use Rattle.coord_batch.specs.Facade.{at_most, client, command, distance, from_one_to, group, how_many, message, node}

-- ---- fields

-- a mode: 0 Ready, 1 Abort, 2 Converge
unfoldable pub mode : Format Mode
mode = made mode_from mode_number (such_that (λ n. nat_lt n 3) byte)

abbrev pub parent_from : ℕ → Option ℕ
parent_from zero = None
parent_from (suc n) = Some (suc n)

abbrev pub parent_number : Option ℕ → ℕ
parent_number None = 0
parent_number (Some p) = p

-- a parent: 0 for none, otherwise the node's number
unfoldable pub parent : Format (Option ℕ)
parent = made parent_from parent_number (such_that (λ n. nat_le n MAX_NODES) byte)

-- a set of nodes, as a mask: node k is bit k - 1
unfoldable pub mask : Format NodeSet
mask = made nodes_of mask_of u64

abbrev pub kind_from : ℕ → Kind
kind_from zero = kinds.Done
kind_from (suc zero) = kinds.Started
kind_from (suc (suc zero)) = kinds.Finished
kind_from (suc (suc (suc n))) = kinds.Joined

abbrev pub kind_number : Kind → ℕ
kind_number kinds.Done = 0
kind_number kinds.Started = 1
kind_number kinds.Finished = 2
kind_number kinds.Joined = 3
kind_number k = 4

-- the kind of a reply: 0 Done, 1 Started, 2 Finished, 3 Joined; only a kind that the command can get is valid
unfoldable pub kind : Command → Format Kind
kind x = such_that (answers x) (made kind_from kind_number (such_that (λ n. nat_lt n 4) byte))

-- ---- nodes

-- the key of the last row, or `last` if there is no row
abbrev pub last_by : {A K : Type 0} → (A → K) → K → List A → K
last_by key last [] = last
last_by key last (x ∷ xs) = last_by key (key x) xs

-- the maximum distance of a node: 0 if it is Ready, otherwise the number of steps
abbrev pub most_distance : Mode → ℕ → ℕ
most_distance Ready count = 0
most_distance Abort count = count
most_distance Converge count = count

unfoldable pub node_row : ℕ → ℕ → List NodeRow → Format NodeRow
node_row version count front =
    made (λ p. record { id = p.0.0; group = p.0.1.0; mode = p.0.1.1.0; parent = p.0.1.1.1.0; pend = p.0.1.1.1.1.0; epoch = p.0.1.1.1.1.1.0; confirmed = p.0.1.1.1.1.1.1; distance = p.1 })
    (λ r. ((r.id, (r.group, (r.mode, (r.parent, (r.pend, (r.epoch, r.confirmed)))))), r.distance))
    (followed (such_that (nat_lt (last_by (λ r. r.id) 0 front)) node & (group & (mode & (parent & (mask & (at_most count & at_most count)))))) (λ p. distance version (most_distance p.1.1.0 count)))

unfoldable pub nodes : ℕ → ℕ → Format (List NodeRow)
nodes version count = counted (how_many MAX_NODES) (node_row version count)

-- ---- links

abbrev pub same_group : Option ℕ → Option ℕ → Bool
same_group None o = false
same_group (Some g) None = false
same_group (Some g) (Some h) = g == h

-- whether both ends are nodes of one group, each with room for another link
abbrev pub can_link : List NodeRow → List LinkRow → ℕ × ℕ → Bool
can_link nodes front e = same_group (group_of nodes e.0) (group_of nodes e.1) && (nat_lt (degree e.0 front) MAX_DEGREE && nat_lt (degree e.1 front) MAX_DEGREE)

abbrev pub last_ends : List LinkRow → ℕ × ℕ
last_ends front = last_by (λ r. (r.a, r.b)) (0, 0) front

-- whether a link whose lesser end is a may follow these links: a is not below the lesser end of the last link
abbrev pub first_rises : List LinkRow → ℕ → Bool
first_rises front a = nat_le (last_ends front).0 a

-- whether a link from a to b may follow these links: b is above a, and the link is above the last link
abbrev pub second_rises : List LinkRow → ℕ → ℕ → Bool
second_rises front a b = nat_lt a b && (not (a == (last_ends front).0) || nat_lt (last_ends front).1 b)

unfoldable pub ends : List NodeRow → List LinkRow → Format (ℕ × ℕ)
ends nodes front =
    such_that (can_link nodes front)
    (followed (such_that (first_rises front) node) (λ a. such_that (second_rises front a) node))

-- a lane's queue, oldest message first
unfoldable pub queue : ℕ → ℕ → Format (List Msg)
queue version count = counted (how_many PLACES) (λ _. message version count)

-- the fields of a lane except its incarnation, which is its link's incarnation: base, got and queue
abbrev pub content_of_lane : Lane → ℕ × (ℕ × List Msg)
content_of_lane l = (l.base, (l.got, l.queue))

unfoldable pub lane : ℕ → ℕ → Format (ℕ × (ℕ × List Msg))
lane version count = at_most count & (at_most count & queue version count)

unfoldable pub link_row : ℕ → ℕ → List NodeRow → List LinkRow → Format LinkRow
link_row version count nodes front =
    made
    (λ p. record {
      a = p.0.0;
      b = p.0.1;
      forth = record { inc = p.1.0; base = p.1.1.0.0; got = p.1.1.0.1.0; queue = p.1.1.0.1.1 };
      back = record { inc = p.1.0; base = p.1.1.1.0; got = p.1.1.1.1.0; queue = p.1.1.1.1.1 };
    })
    (λ r. ((r.a, r.b), (r.forth.inc, ((r.forth.base, (r.forth.got, r.forth.queue)), (r.back.base, (r.back.got, r.back.queue))))))
    (ends nodes front & (from_one_to count & (lane version count & lane version count)))

unfoldable pub links : ℕ → ℕ → List NodeRow → Format (List LinkRow)
links version count nodes = counted (how_many MAX_LINKS) (link_row version count nodes)

-- ---- clients

unfoldable pub client_row : ℕ → List ClientRow → Format ClientRow
client_row count front =
    made (λ p. record { client = p.0; session = record { number = p.1.0; command = p.1.1.0; reply = record { step = p.1.1.1.0; kind = p.1.1.1.1 } } })
    (λ r. (r.client, (r.session.number, (r.session.command, (r.session.reply.step, r.session.reply.kind)))))
    (such_that (nat_lt (last_by (λ r. r.client) 0 front)) client & (from_one_to count & followed command (λ x. from_one_to count & kind x)))

unfoldable pub clients : ℕ → Format (List ClientRow)
clients count = counted (how_many MAX_CLIENTS) (client_row count)

-- ---- worlds

unfoldable pub world : ℕ → Format Rows
world version =
    made (λ p. record { version = version; count = p.0; nodes = p.1.0; links = p.1.1.0; clients = p.1.1.1 }) (λ r. (r.count, (r.nodes, (r.links, r.clients))))
    (followed (at_most MAX_STEPS) (λ count. followed (nodes version count) (λ nodes. links version count nodes & clients count)))
