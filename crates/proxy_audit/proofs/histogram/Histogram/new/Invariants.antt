use Rattle.std.proofs.Common.{◌≡◌, All}
use Rattle.proxy_audit.proofs.histogram.Histogram.new.Given as goal

abbrev pub invariant-loop-index : goal.invariant-loop-index
invariant-loop-index l = All (λ bucket. bucket.count ≡ 0) l.buckets.items
