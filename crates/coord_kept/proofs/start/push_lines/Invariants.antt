use Rattle.std.proofs.Common.{◌≡◌, ◌++◌, take, codes, string_bytes}
use Rattle.std.specs.List.{flat_map}
use Rattle.coord_kept.specs.Start.{quoted}
use Rattle.coord_kept.proofs.start.push_lines.Given as goal

abbrev pub invariant-loop-line : goal.invariant-loop-line
invariant-loop-line l = string_bytes l.text ≡ string_bytes l.initial.text ++ flat_map (λ line. codes ", " ++ quoted line) (take l.line-index l.rest)
