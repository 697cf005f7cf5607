use Rattle.std.proofs.Common.{◌≡◌, ◌++◌, string_bytes}
use Rattle.proxy_audit.specs.Tallies.{answer_line}
use Rattle.proxy_audit.proofs.Given.{given_lines}
use Rattle.proxy_audit.proofs.tally.push_answers.Given as goal

abbrev pub invariant-loop-labels : goal.invariant-loop-labels
invariant-loop-labels l = string_bytes l.text ≡ string_bytes l.initial.text ++ given_lines answer_line l.yielded
