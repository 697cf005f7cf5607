-- Orders as numbers, and the calls of the order book over them.
use Rattle.std.specs.Prelude.{◌≡◌, ℕ, ◌+◌, ◌^◌, ◌-◌, ◌==◌, List, [], Option, Some, None, option_and_then, Result, Ok, Err, if◌then◌else◌}
use Rattle.std.specs.Option.{option_map}
use Rattle.coord_types.specs.declared.limits.TheConstants.{MAX_CLIENTS, MAX_GROUPS, MAX_NODES}
use Rattle.coord_types.specs.declared.steps.Command.{Command}
use Rattle.coord_types.specs.declared.steps.Command.TheVariants.{Add, Remove, Join, Drop, Reset, Confirm}
use Rattle.coord_orders.specs.declared.book.Kept.{Kept}
use Rattle.coord_orders.specs.declared.book.Line.{Line}
use Rattle.coord_orders.specs.declared.book.OrderBook.{OrderBook}
use Rattle.coord_orders.specs.declared.meaning.Answer.{Answer}
use Rattle.coord_orders.specs.declared.meaning.Meaning.{Meaning}
use Rattle.coord_orders.specs.declared.meaning.Meaning.TheVariants.{Done, NotDone, SendAgain, CountLost}
use Rattle.coord_orders.specs.Book.{kept_after, line_of, opened, written}
use Rattle.coord_orders.specs.Meanings.{meaning_of}
use Rattle.coord_wire.specs.OrderLine.{order_line}
use Rattle.coord_wire.specs.AnswerLine.{answer_in}
use Rattle.coord_wire.specs.ShowLine.{from_1_to}
use Rattle.coord_wire.specs.declared.answer_line.ReadFault.{ReadFault}
use Rattle.resetd_member.specs.declared.order.Order.{Order}
use Rattle.resetd_member.specs.declared.order.Orders.{Orders}
use Rattle.resetd_member.specs.declared.orders.Heard.{Heard}
use Rattle.resetd_member.specs.declared.status.Fault.{Fault}
use Rattle.resetd_member.specs.declared.status.Fault.TheVariants.{OutOfMemory, BadLine, BadNumber, InHand}

-- ---- orders as numbers

abbrev pub node : ℕ → Option ℕ
node n = from_1_to MAX_NODES n

abbrev pub of_two : (ℕ → ℕ → Command) → Option ℕ → Option ℕ → Option Command
of_two f None b = None
of_two f (Some a) None = None
of_two f (Some a) (Some b) = Some (f a b)

abbrev pub command_of : Order → Option Command
command_of o =
    if o.op == 1 then of_two Add (node o.a) (from_1_to MAX_GROUPS o.b)
    else (if o.op == 2 then option_map Remove (node o.a)
    else (if o.op == 3 then of_two Join (node o.a) (node o.b)
    else (if o.op == 4 then of_two Drop (node o.a) (node o.b)
    else (if o.op == 5 then option_map Reset (node o.a)
    else (if o.op == 6 then option_map (λ u. Confirm u o.epoch) (node o.a)
    else None)))))

abbrev pub order_of : Command → Order
order_of (Add u g) = record { op = 1; a = u; b = g; epoch = 0 }
order_of (Remove u) = record { op = 2; a = u; b = 0; epoch = 0 }
order_of (Join a b) = record { op = 3; a = a; b = b; epoch = 0 }
order_of (Drop a b) = record { op = 4; a = a; b = b; epoch = 0 }
order_of (Reset u) = record { op = 5; a = u; b = 0; epoch = 0 }
order_of (Confirm u e) = record { op = 6; a = u; b = 0; epoch = e }

abbrev pub order_with : Option Command → Order
order_with None = record { op = 0; a = 0; b = 0; epoch = 0 }
order_with (Some x) = order_of x

abbrev pub kept_with : ℕ → Option Command → Option Kept
kept_with last None = None
kept_with last (Some x) = Some (record { last = last; in_hand = Some x })

abbrev pub kept_of : Orders → Option Kept
kept_of o = if o.in_hand.op == 0 then Some (record { last = o.last; in_hand = None }) else kept_with o.last (command_of o.in_hand)

abbrev pub orders_of : Kept → Orders
orders_of kept = record { last = kept.last; in_hand = order_with kept.in_hand }

-- ---- the calls of the order book

abbrev pub written_in : Option OrderBook → Result Orders Fault
written_in None = Err InHand
written_in (Some book) = Ok (orders_of book.kept)

abbrev pub written_by : Option Kept → Option Command → Result Orders Fault
written_by None x = Err BadNumber
written_by (Some kept) None = Err BadNumber
written_by (Some kept) (Some x) = written_in (written (opened kept) x)

-- the book after an order is recorded under the next number
abbrev pub written_down : Orders → Order → Result Orders Fault
written_down orders order = written_by (kept_of orders) (command_of order)

abbrev pub text_of : ℕ → Option Line → List ℕ
text_of client None = []
text_of client (Some line) = order_line client line

abbrev pub line_by : Option Kept → Option ℕ → Result (List ℕ) Fault
line_by None client = Err BadNumber
line_by (Some kept) None = Err BadNumber
line_by (Some kept) (Some c) = if kept.last == 2 ^ 64 - 1 then Err BadNumber else Ok (text_of c (line_of kept))

-- the line to send; empty if no order is in hand
abbrev pub line_for : Orders → ℕ → Result (List ℕ) Fault
line_for orders client = line_by (kept_of orders) (from_1_to MAX_CLIENTS client)

abbrev pub meaning_number : Meaning → ℕ
meaning_number (Done reply) = 1
meaning_number NotDone = 2
meaning_number SendAgain = 3
meaning_number CountLost = 4

abbrev pub heard_as : Kept → Meaning → Heard
heard_as kept meaning = record { orders = orders_of (kept_after kept meaning); meaning = meaning_number meaning }

abbrev pub heard_by : Option Kept → Result Answer ReadFault → Result Heard Fault
heard_by None answer = Err BadNumber
heard_by (Some kept) (Err fault) = Err BadLine
heard_by (Some kept) (Ok a) = if kept.last == 2 ^ 64 - 1 then Err BadNumber else Ok (heard_as kept (meaning_of a))

-- the book after the answer to the line that was sent last, and the meaning of that answer
abbrev pub heard_in : Orders → List ℕ → Result Heard Fault
heard_in orders line = heard_by (kept_of orders) (answer_in line)
