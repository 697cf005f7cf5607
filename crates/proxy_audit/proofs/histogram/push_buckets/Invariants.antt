use Rattle.std.proofs.Common.{◌≡◌, ◌++◌, take, string_bytes}
use Rattle.proxy_audit.specs.Tallies.{bucket_lines}
use Rattle.proxy_audit.proofs.histogram.push_buckets.Given as goal

abbrev pub invariant-loop-bucket : goal.invariant-loop-bucket
invariant-loop-bucket l = string_bytes l.text ≡ string_bytes l.initial.text ++ bucket_lines l.op (take l.bucket-index l.buckets)
