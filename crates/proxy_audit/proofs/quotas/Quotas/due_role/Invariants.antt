use Rattle.std.specs.Duration.{as_nanos}
use Rattle.std.specs.List.{All}
use Rattle.proxy_audit.proofs.Due.{IsNotDue}
use Rattle.proxy_audit.proofs.quotas.Quotas.due_role.Given as goal

abbrev pub invariant-loop-role : goal.invariant-loop-role
invariant-loop-role l = All (IsNotDue (as_nanos l.now)) l.yielded
