use Rattle.std.proofs.Common.{ℤ, subst}
use Rattle.proxy_audit.specs.Moments.{ShowsInstant}
use Rattle.proxy_audit.proofs.time.moment.Goals as goal

pub returns : goal.returns
returns c = λ in_range.
    let P : ℤ → Type 0 = λ nanos. ShowsInstant nanos c.text_of.result.bytes in
    subst P (c.timestamp_of.ensures in_range) c.text_of.ensures
