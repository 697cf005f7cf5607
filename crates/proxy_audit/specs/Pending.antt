-- The audit lines that are not written yet.
use Rattle.std.specs.Prelude.{◌≡◌, ◌⊎◌, ℕ, ◌+◌, ◌-◌, ◌^◌, min, pos, Bool, true, false, List, [], ◌++◌}
use Rattle.jiff_core.specs.Timestamp.{IsTimestampNanos}
use Rattle.proxy_audit.specs.Lines.{line_of}
use Rattle.proxy_audit.specs.Moments.{IsMoment}
use Rattle.proxy_audit.specs.declared.event.Event.{Event}

-- the bytes that are not written yet, and the number of lost lines
pub record Pending : Type 0 where
  pub unwritten : List ℕ
  pub lost : ℕ

abbrev pub no_pending : Pending
no_pending = record { unwritten = []; lost = 0 }

-- the line of an event at this time is appended to the unwritten bytes
abbrev pub AddsLine : ℕ → Event → Pending → Pending → Type 0
AddsLine nanos e old new =
    (time : List ℕ) × (IsTimestampNanos (pos nanos) → IsMoment nanos time) × (new.unwritten ≡ old.unwritten ++ line_of time e) × (new.lost ≡ old.lost)

-- the line is counted as lost; the count stops at the greatest 64-bit number
abbrev pub LosesLine : Pending → Pending → Type 0
LosesLine old new = (new.unwritten ≡ old.unwritten) × (new.lost ≡ min (old.lost + 1) (2 ^ 64 - 1))

abbrev pub Adds : ℕ → Event → Pending → Pending → Type 0
Adds nanos e old new = AddsLine nanos e old new ⊎ LosesLine old new

-- if the quota has room, the line is added or lost; if not, nothing changes
abbrev pub AddsIf : Bool → ℕ → Event → Pending → Pending → Type 0
AddsIf true nanos e old new = Adds nanos e old new
AddsIf false nanos e old new = new ≡ old
