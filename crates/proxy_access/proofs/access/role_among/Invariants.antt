use Rattle.std.proofs.Common.{◌≢◌, ◌<◌, ℕ, Some, map}
use Rattle.std.specs.Prelude.{slice_get, string_bytes}
use Rattle.proxy_access.proofs.access.role_among.Given as goal

abbrev pub invariant-loop-place : goal.invariant-loop-place
invariant-loop-place l = (i : ℕ) → i < l.place → slice_get (map string_bytes l.principals) i ≢ Some l.principal
