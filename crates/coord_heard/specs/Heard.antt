-- The line that the server prints for a view, a reply or a refusal is parsed by clients as that view, reply
-- or refusal. The line that a client prints for an order is parsed by the server as that order.
use Rattle.std.specs.Prelude.{◌≡◌, ◌≤◌, ◌<◌, ◌^◌, ℕ, List, [], ◌∷◌, ◌++◌, Option, Some, None, Ok}
use Rattle.std.specs.List.{AllByRecursion}
use Rattle.coord_types.specs.declared.limits.TheConstants.{MAX_CLIENTS, MAX_GROUPS, MAX_NODES}
use Rattle.coord_types.specs.declared.steps.Command.{Command}
use Rattle.coord_types.specs.declared.steps.Command.TheVariants.{Add, Remove, Join, Drop, Reset, Confirm}
use Rattle.coord_types.specs.declared.steps.Reply.{Reply}
use Rattle.coord_view.specs.Shown.{Shown}
use Rattle.coord_view.specs.declared.view.LinkView.{LinkView}
use Rattle.coord_view.specs.declared.view.NodeView.{NodeView}
use Rattle.coord_orders.specs.declared.book.Line.{Line}
use Rattle.coord_orders.specs.declared.meaning.Answer.TheVariants as heard
use Rattle.coord_admin.specs.Replies.{reply_line}
use Rattle.coord_admin.specs.Requests.{asked_by}
use Rattle.coord_admin.specs.declared.answer.Answer.TheVariants as printed
use Rattle.coord_admin.specs.declared.request.Request.TheVariants.{Order}
use Rattle.coord_wire.specs.AnswerLine.{answer_in, kinds, refusals}
use Rattle.coord_wire.specs.OrderLine.{order_line}
use Rattle.coord_wire.specs.ShowLine.{shown_in}

-- ---- a view has numbers within the ranges of their types

abbrev pub IsWord : ℕ → Type 0
IsWord n = n < 2 ^ 64

abbrev pub IsIn : ℕ → ℕ → Type 0
IsIn most n = (1 ≤ n) × (n ≤ most)

abbrev pub IsParent : Option ℕ → Type 0
IsParent None = Unit {0}
IsParent (Some u) = IsIn MAX_NODES u

pub record IsNodeRow (v : NodeView) : Type 0 where
  pub node : IsIn MAX_NODES v.node
  pub group : IsIn MAX_GROUPS v.group
  pub parent : IsParent v.parent
  pub epoch : IsWord v.epoch
  pub confirmed : IsWord v.confirmed

pub record IsLink (l : LinkView) : Type 0 where
  pub a : IsIn MAX_NODES l.a
  pub b : IsIn MAX_NODES l.b
  pub inc : IsWord l.inc

pub record IsView (v : Shown) : Type 0 where
  pub accepted : IsWord v.accepted
  pub settled : IsWord v.settled
  pub nodes : AllByRecursion IsNodeRow v.nodes
  pub links : AllByRecursion IsLink v.links

-- ---- lines that a client reads

-- The line of each view is parsed as that view.
abbrev pub ShownIsRead : Type 0
ShownIsRead = (v : Shown) → IsView v → shown_in (reply_line (printed.Shown v)) ≡ Ok v

-- The line of this reply to an order is parsed as that reply.
abbrev pub IsReadOf : Reply → Type 0
IsReadOf r = answer_in (reply_line (printed.Replied r)) ≡ Ok (heard.Replied r)

abbrev pub ReplyIsRead : Type 0
ReplyIsRead = AllByRecursion (λ row. (step : ℕ) → IsWord step → IsReadOf (record { step = step; kind = row.1 })) kinds

-- The line of each refusal that an order may get is parsed as that refusal.
abbrev pub RefusalIsRead : Type 0
RefusalIsRead = AllByRecursion (λ row. answer_in (reply_line (printed.Refused row.1)) ≡ Ok (heard.Refused row.1)) refusals

-- ---- lines that a client prints

-- The numbers of a command are within the ranges of their types.
abbrev pub IsCommand : Command → Type 0
IsCommand (Add u g) = IsIn MAX_NODES u × IsIn MAX_GROUPS g
IsCommand (Remove u) = IsIn MAX_NODES u
IsCommand (Join a b) = IsIn MAX_NODES a × IsIn MAX_NODES b
IsCommand (Drop a b) = IsIn MAX_NODES a × IsIn MAX_NODES b
IsCommand (Reset u) = IsIn MAX_NODES u
IsCommand (Confirm u e) = IsIn MAX_NODES u × IsWord e

-- The server parses the line that a client prints for an order, without its line feed, as that order, with that client and
-- number.
abbrev pub OrderIsRead : Type 0
OrderIsRead =
    (client : ℕ) (line : Line) (text : List ℕ) → IsIn MAX_CLIENTS client → IsWord line.number → IsCommand line.command
    → text ++ (10 ∷ []) ≡ order_line client line → asked_by (Some text) ≡ Ok (Order client line.number line.command)
