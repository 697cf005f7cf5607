use Rattle.std.proofs.Common.{◌≡◌, ◌++◌, length, string_bytes}
use Rattle.coord_drill.specs.Holding.{after_step, left, released_lines}
use Rattle.coord_drill.proofs.drill.flying.print_released.Given as goal

-- the printed text and the remaining one, and the releases of other steps
abbrev pub invariant-loop-ahead : goal.invariant-loop-ahead
invariant-loop-ahead l =
    (string_bytes l.text ++ released_lines l.version l.step (left l.ahead l.releases) ≡ string_bytes l.initial.text ++ released_lines l.version l.step (left l.initial.ahead l.initial.releases))
    × (after_step l.step (left l.ahead l.releases) ≡ after_step l.step (left l.initial.ahead l.initial.releases))

abbrev pub decreases-loop-ahead : goal.decreases-loop-ahead
decreases-loop-ahead l = length (left l.ahead l.releases)
