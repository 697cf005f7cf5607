use Rattle.std.proofs.Common.{◌≡◌, None}
use Rattle.std.specs.Duration.{as_nanos}
use Rattle.std.specs.Option.{option_map}
use Rattle.proxy_audit.proofs.Earliest.{earliest_given}
use Rattle.proxy_audit.proofs.quotas.Quotas.left_out_since.Given as goal

abbrev pub invariant-loop-quota : goal.invariant-loop-quota
invariant-loop-quota l = option_map as_nanos l.earliest ≡ earliest_given None l.yielded
