-- The letters that were passed hold, and no other ones are tried.
use Rattle.std.proofs.Common.{◌≡◌, drop}
use Rattle.std.specs.List.{flat_map}
use Rattle.coord_check.specs.Faults.{first, letter_faults, link_letters}
use Rattle.coord_check.proofs.search.first_of_link.Given as goal

abbrev pub invariant-loop-letter : goal.invariant-loop-letter
invariant-loop-letter l = first (flat_map (letter_faults l.world l.a l.b) (drop l.letter-index link_letters)) ≡ first (flat_map (letter_faults l.world l.a l.b) link_letters)
