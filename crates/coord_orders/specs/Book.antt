-- A client's order book, and how it handles an answer.
use Rattle.std.specs.Prelude.{ℕ, ◌+◌, ◌==◌, Bool, false, Option, Some, None, if◌then◌else◌}
use Rattle.coord_types.specs.declared.steps.Command.{Command}
use Rattle.coord_orders.specs.declared.book.Kept.{Kept}
use Rattle.coord_orders.specs.declared.book.Line.{Line}
use Rattle.coord_orders.specs.declared.book.OrderBook.{OrderBook}
use Rattle.coord_orders.specs.declared.book.Heard.{Heard}
use Rattle.coord_orders.specs.declared.meaning.Answer.{Answer}
use Rattle.coord_orders.specs.declared.meaning.Meaning.{Meaning}
use Rattle.coord_orders.specs.declared.meaning.Meaning.TheVariants.{Done, NotDone, SendAgain, CountLost}
use Rattle.coord_orders.specs.Meanings.{meaning_of}

abbrev pub opened : Kept → OrderBook
opened kept = record { kept = kept; awaited = None }

abbrev pub with_order : ℕ → Command → OrderBook
with_order last x = opened (record { last = last; in_hand = Some x })

abbrev pub written_over : Option Command → ℕ → Command → Option OrderBook
written_over None last x = Some (with_order last x)
written_over (Some y) last x = None

-- records an order in the book; None if another order is already in hand
abbrev pub written : OrderBook → Command → Option OrderBook
written b x = written_over b.kept.in_hand b.kept.last x

abbrev pub line_with : ℕ → Option Command → Option Line
line_with last None = None
line_with last (Some x) = Some (record { number = last + 1; command = x })

-- the line of the order in hand, with the number after the client's last number; None if no order is in hand
abbrev pub line_of : Kept → Option Line
line_of kept = line_with kept.last kept.in_hand

abbrev pub sending : OrderBook → ℕ → OrderBook
sending b serial = record b { awaited = Some serial }

abbrev pub is_at : ℕ → Option ℕ → Bool
is_at serial None = false
is_at serial (Some n) = n == serial

abbrev pub is_awaited : OrderBook → ℕ → Bool
is_awaited b serial = is_at serial b.awaited

-- the stored book after an answer with this meaning
abbrev pub kept_after : Kept → Meaning → Kept
kept_after kept (Done reply) = record { last = kept.last + 1; in_hand = None }
kept_after kept NotDone = record { last = kept.last; in_hand = None }
kept_after kept SendAgain = kept
kept_after kept CountLost = kept

-- the book after an answer, and the meaning of the answer: an answer to a line other than the awaited line has
-- no meaning and changes nothing
abbrev pub heard : OrderBook → ℕ → Answer → Heard
heard b serial a =
    if is_awaited b serial then record { book = opened (kept_after b.kept (meaning_of a)); meaning = Some (meaning_of a) }
    else record { book = b; meaning = None }
