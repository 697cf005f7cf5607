use Rattle.std.proofs.Common.{◌≡◌, ℕ, Bool, false, Option, Some, ap, subst, ◌∙◌}
use Rattle.jiff_core.specs.declared.timestamp.Timestamp.{Timestamp}
use Rattle.jiff_fmt.specs.Printer.{options}
use Rattle.proxy_audit.specs.Moments.{ShowsInstant}
use Rattle.proxy_audit.proofs.Shown.{shown}
use Rattle.proxy_audit.proofs.time.text_of.Goals as goal

pub returns : goal.returns
returns c =
    let set : options c.precision-printer.result ≡ (false, 84, Some 3) = c.precision-printer.ensures ∙ ap (λ (o : Bool × ℕ × Option ℕ). (o.0, o.1, Some 3)) c.new-plain.ensures in
    let P : Timestamp → Type 0 = λ t. ShowsInstant t.nanosecond c.timestamp_text.result.bytes in
    subst P c.to_plain.ensures (shown c.precision-printer.result c.to_plain.result c.timestamp_text.result.bytes set c.timestamp_text.ensures)
