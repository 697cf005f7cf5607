-- The size of the halves of a store.
use Rattle.std.specs.Prelude.{◌≡◌, ◌≢◌, ℕ, true, List, None, Result, MatchResult}
use Rattle.coord_disk.specs.Model.DiskModel.{DiskModel}
use Rattle.coord_journal.specs.Text.{HasHeader}
use Rattle.coord_store.specs.Kept.{Kept}

-- the bytes begin with a header for halves of this size
abbrev pub HasHalves : ℕ → List ℕ → Type 0
HasHalves size bytes = (selector : ℕ) × (rest : List ℕ) × HasHeader bytes selector size rest

-- The halves keep their size unless the device fails. `device` is the fault that reports a failure of the
-- device.
abbrev pub KeepsHalves : {D T E : Type 0} → DiskModel D → E → Kept D → Kept D → Result T E → Type 0
KeepsHalves m device old new result = m.keeps_model old.disk ≡ true → old.torn ≡ None → (size : ℕ) → HasHalves size (m.present old.disk).read
    → MatchResult result (λ _. HasHalves size (m.present new.disk).read) (λ fault. fault ≢ device → HasHalves size (m.present new.disk).read)
