use Rattle.std.proofs.Common.{◌≡◌, ◌++◌, string_bytes}
use Rattle.proxy_audit.specs.Tallies.{histogram_lines}
use Rattle.proxy_audit.proofs.Given.{given_lines}
use Rattle.proxy_audit.proofs.tally.push_times.Given as goal

abbrev pub invariant-loop-op : goal.invariant-loop-op
invariant-loop-op l = string_bytes l.text ≡ string_bytes l.initial.text ++ given_lines histogram_lines l.yielded
