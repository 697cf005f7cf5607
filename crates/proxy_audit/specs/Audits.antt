-- How calls change an audit: its unwritten lines, its quotas and its file.
use Rattle.std.specs.Prelude.{◌≡◌, ◌≢◌, ◌⊎◌, ℕ, Some}
use Rattle.std.specs.BTreeMap.{get}
use Rattle.std.specs.Ordering.{nat_cmp}
use Rattle.proxy_audit.specs.Pending.{Adds, AddsIf, LosesLine}
use Rattle.proxy_audit.specs.Quotas.{Quota, after_admission, has_room, quota_in, times_of}
use Rattle.proxy_audit.specs.declared.audit_log.Audit.{Audit}
use Rattle.proxy_audit.specs.declared.event.Event.{Event}
use Rattle.proxy_audit.specs.declared.quota.LineKind.{LineKind}

-- the quota of a role; a new quota if the role has none
abbrev pub audit_quota : Audit → ℕ → Quota
audit_quota a role = quota_in (get nat_cmp a.quotas.all role)

-- the audit's file and the time of its last failure report stay the same
abbrev pub KeepsFile : Audit → Audit → Type 0
KeepsFile old new = (new.file ≡ old.file) × (new.reported ≡ old.reported)

-- the line of an event is added or counted as lost, and nothing else changes
abbrev pub AddsEvent : ℕ → Event → Audit → Audit → Type 0
AddsEvent nanos e old new = Adds nanos e old.pending new.pending × (new.quotas ≡ old.quotas) × KeepsFile old new

-- the role's quota admitted a line of this kind now, or counted the line as left out
abbrev pub IsCounted : ℕ → LineKind → ℕ → Audit → Audit → Type 0
IsCounted role kind now old new = get nat_cmp new.quotas.all role ≡ Some (after_admission kind now (audit_quota old role))

abbrev pub KeepsQuota : ℕ → Audit → Audit → Type 0
KeepsQuota role old new = get nat_cmp new.quotas.all role ≡ get nat_cmp old.quotas.all role

-- either the role's quota admits the line, which is then added or lost; or the quota leaves the line out; or the quota
-- stays the same, and the line is lost
abbrev pub AddsOrLoses : ℕ → LineKind → ℕ → ℕ → Event → Audit → Audit → Type 0
AddsOrLoses role kind now nanos e old new =
    (IsCounted role kind now old new × AddsIf (has_room now (times_of kind (audit_quota old role))) nanos e old.pending new.pending)
    ⊎ (KeepsQuota role old new × LosesLine old.pending new.pending)

-- AddsOrLoses holds for this role; the quotas of other roles and the file stay the same
abbrev pub AddsWithin : ℕ → LineKind → ℕ → ℕ → Event → Audit → Audit → Type 0
AddsWithin role kind now nanos e old new =
    AddsOrLoses role kind now nanos e old new × ((other : ℕ) → other ≢ role → KeepsQuota other old new) × KeepsFile old new
