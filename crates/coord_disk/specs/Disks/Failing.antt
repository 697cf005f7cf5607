-- A disk that fails some calls, as a rule decides.
use Rattle.std.specs.Prelude.{◌≡◌, ℕ, ◌+◌, ◌-◌, ◌^◌, min, length, take, Bool, true, false, List, Option, Some, None, Result, IsErr}
use Rattle.coord_disk.specs.declared.fault.DiskFault.{DiskFault}
use Rattle.coord_disk.specs.declared.failing.Call.{Call}
use Rattle.coord_disk.specs.declared.failing.FailingDisk.{FailingDisk}
use Rattle.coord_disk.specs.Model.Calls.{HasCause}
use Rattle.coord_disk.specs.Model.DiskModel.{DiskModel, seen_through}
use Rattle.coord_disk.specs.Model.Present.{written_at}

abbrev pub inner_of : {D R : Type 0} → FailingDisk D R → D
inner_of disk = disk.inner

abbrev pub rule_of : {D R : Type 0} → FailingDisk D R → R
rule_of disk = disk.rule

-- n + 1, but at most the greatest u64
abbrev pub one_more : ℕ → ℕ
one_more n = min (n + 1) (2 ^ 64 - 1)

-- the number of calls so far
abbrev pub calls_of : {D R : Type 0} → FailingDisk D R → ℕ
calls_of disk = disk.calls

-- the number of calls that the rule failed
abbrev pub failed_of : {D R : Type 0} → FailingDisk D R → ℕ
failed_of disk = length disk.failed.items

-- the number of calls that failed, by the rule or by the disk inside
abbrev pub failures_of : {D R : Type 0} → DiskModel D → FailingDisk D R → ℕ
failures_of m disk = m.failures (inner_of disk) + failed_of disk

-- a new disk over this one, with this rule and no calls so far
pub record IsOver {D R : Type 0} (inner : D) (rule : R) (disk : FailingDisk D R) : Type 0 where
  pub inside : inner_of disk ≡ inner
  pub follows : rule_of disk ≡ rule
  pub calls : calls_of disk ≡ 0
  pub failed : failed_of disk ≡ 0

-- the model of a disk that fails by a rule: it is the model of the disk inside, but also counts the failures by
-- the rule
abbrev pub failing : {D R : Type 0} → DiskModel D → DiskModel (FailingDisk D R)
failing m = seen_through m inner_of (failures_of m)

-- the call does not reach the disk inside, and its failure is counted
pub record IsUnreached {D R : Type 0} (old new : FailingDisk D R) : Type 0 where
  pub same : inner_of new ≡ inner_of old
  pub counted : failed_of new ≡ failed_of old + 1

-- The effect of a write that the rule fails. If the rule tears the write, its first bytes are written, unless
-- the disk inside fails too; otherwise the disk inside is unchanged.
abbrev pub IsTorn : {D R : Type 0} → DiskModel D → Option ℕ → ℕ → List ℕ → FailingDisk D R → FailingDisk D R → Type 0
IsTorn m None at bytes old new = IsUnreached old new
IsTorn m (Some kept) at bytes old new =
    m.keeps_model (inner_of old) ≡ true → m.failures (inner_of new) ≡ m.failures (inner_of old) → m.present (inner_of new) ≡ written_at at (take kept bytes) (m.present (inner_of old))

-- Each call is counted, and the rule decides whether the call fails. If the rule fails it, the effect is
-- `leaves`. Otherwise the call is passed on, and fails only if the disk inside fails.
pub record IsCounted {D R T : Type 0} (m : DiskModel D) (says : R → Call → Bool → R → Type 0) (call : Call) (old new : FailingDisk D R) (result : Result T DiskFault) (leaves : Type 0) : Type 0 where
  pub counted : calls_of new ≡ one_more (calls_of old)
  pub fails : Bool
  pub said : says (rule_of old) call fails (rule_of new)
  pub failed : fails ≡ true → IsErr result × leaves
  pub passed : fails ≡ false → HasCause (m.failures (inner_of old)) (m.failures (inner_of new)) result × (failed_of new ≡ failed_of old)

-- the disk inside crashes; the rule and the counts are unchanged
pub record CrashesInside {D R : Type 0} (crashes : D → D → Type 0) (old new : FailingDisk D R) : Type 0 where
  pub inside : crashes (inner_of old) (inner_of new)
  pub rule : rule_of new ≡ rule_of old
  pub calls : calls_of new ≡ calls_of old
  pub failed : failed_of new ≡ failed_of old
