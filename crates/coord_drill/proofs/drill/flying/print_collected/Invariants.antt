use Rattle.std.proofs.Common.{◌≡◌, ◌++◌, length, string_bytes}
use Rattle.std.specs.List.{AllByRecursion}
use Rattle.coord_ledger.specs.ledger.State.{IsGranted}
use Rattle.coord_drill.specs.Holding.{collected_lines, left, waiting}
use Rattle.coord_drill.proofs.drill.flying.print_collected.Given as goal

-- the printed text and the remaining one, and the remaining tickets
abbrev pub invariant-loop-ticket : goal.invariant-loop-ticket
invariant-loop-ticket g l =
    (string_bytes l.text ++ collected_lines l.version l.settled l.tickets.items (left l.ahead l.releases) ≡ string_bytes l.initial.text ++ collected_lines l.version l.settled l.initial.tickets.items (left l.initial.ahead l.initial.releases))
    × (waiting l.settled l.tickets.items ≡ waiting l.settled l.initial.tickets.items)
    × AllByRecursion (IsGranted l.ledger.log) l.tickets.items

abbrev pub decreases-loop-ticket : goal.decreases-loop-ticket
decreases-loop-ticket g l = length l.tickets.items
