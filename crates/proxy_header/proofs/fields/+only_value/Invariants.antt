use Rattle.std.proofs.Common.{length}
use Rattle.proxy_header.proofs.fields.+only_value.Given as goal

abbrev pub decreases-only_value : goal.decreases-only_value
decreases-only_value l = length l.bytes.now
