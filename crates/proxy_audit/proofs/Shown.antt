-- The text of an instant.
use Rattle.std.proofs.Common.{◌≡◌, ◌++◌, ℕ, Bool, false, List, Option, Some, ap, ◌∙◌}
use Rattle.jiff_core.specs.declared.timestamp.Timestamp.{Timestamp}
use Rattle.jiff_fmt.specs.declared.temporal.printer.DateTimePrinter.{DateTimePrinter}
use Rattle.jiff_fmt.specs.Printer.{IsTimestampText, options}
use Rattle.jiff_fmt.specs.Text.{datetime_text, zulu_text}
use Rattle.proxy_audit.specs.Moments.{ShowsInstant}

pub shown : (p : DateTimePrinter) (t : Timestamp) (text : List ℕ) → options p ≡ (false, 84, Some 3) → IsTimestampText p t text → ShowsInstant t.nanosecond text
shown p t text is shows = (shows.0, shows.1, shows.2 ∙ ap (λ (o : Bool × ℕ × Option ℕ). datetime_text o.0 o.1 o.2 shows.0 ++ zulu_text o.0) is)
