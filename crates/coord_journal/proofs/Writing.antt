-- A crash at any moment of an append or a replace.
use Rattle.std.proofs.Common.{◌≡◌, inl, ℕ, ◌+◌, ◌-◌, ◌≤◌, true, List, [], ◌∷◌, ◌++◌, length, sym, subst, arith}
use Rattle.coord_disk.specs.Model.DiskModel.{DiskModel, IsModel}
use Rattle.coord_disk.specs.Model.Moments.{LeavesOnly}
use Rattle.coord_disk.specs.Model.Present.{whole}
use Rattle.coord_disk.proofs.MomentLemmas.{started, weaker}
use Rattle.coord_disk.proofs.TornWrites.{whole_image}
use Rattle.coord_journal.specs.Facade.{Content, HasRoomFor, IsEitherText, IsReady, IsText, TornInTurn, disk_of, gate_place, half_front, half_of, half_size_of, half_start, sized, used_of, with_batch, without_batch}
use Rattle.coord_journal.specs.declared.journal.Journal.{Journal}
use Rattle.coord_journal.specs.declared.layout.TheConstants.{MAX_BODY, MAX_SNAPSHOT}
use Rattle.coord_journal.proofs.Appended.{append_torn}
use Rattle.coord_journal.proofs.Replaced.{replace_torn}

module _ {D : Type 0} (m : DiskModel D) (j : Journal D) (content : Content) (ready : IsReady m j content) where
  abbrev bytes : List ℕ
  bytes = (m.present (disk_of j)).read

  -- what may be left while other bytes are put at two places, one after the other
  abbrev pub TornBy : D → ℕ → List ℕ → ℕ → List ℕ → Type 0
  TornBy new at first next second = (all : List ℕ) → m.keeps_model (disk_of j) ≡ true → m.present (disk_of j) ≡ whole all → LeavesOnly m (disk_of j) new (TornInTurn all at first next second)

  -- nothing was written
  pub nothing_written : IsModel m → (other : Content) → LeavesOnly m (disk_of j) (disk_of j) (IsEitherText content other)
  nothing_written laws other =
      started m laws (disk_of j) _ ready.keeps (λ image is. inl (subst (IsText content) (sym (whole_image bytes (m.present (disk_of j)) ready.synced image is)) (half_size_of j, half_of j, used_of j, ready.text)))

  pub appending : (new : D) (body block : List ℕ) (gate : ℕ) → length body ≤ MAX_BODY → HasRoomFor j (length body) → gate ≡ gate_place (half_size_of j) (half_of j) (used_of j) → block ≡ sized body ++ 0 ∷ [] → TornBy new (gate + 1) block gate (1 ∷ [])
      → LeavesOnly m (disk_of j) new (IsEitherText content (with_batch content body))
  appending new body block gate short fits place block_is moments =
      weaker m (disk_of j) new _ _ (moments bytes ready.keeps ready.synced) (λ image torn.
      append_torn ready.text body short fits (gate + 1) gate (omega (arith, place)) place image
      (subst (λ (b : List ℕ). TornInTurn bytes (gate + 1) b gate (1 ∷ []) image) block_is torn))

  pub replacing : (new : D) (version : ℕ) (snapshot half : List ℕ) (start selector : ℕ) → length snapshot ≤ MAX_SNAPSHOT → start ≡ 17 + half_start (1 - half_of j) (half_size_of j) → half ≡ half_front version snapshot [] ++ 0 ∷ [] → TornBy new start half 0 (selector ∷ [])
      → LeavesOnly m (disk_of j) new (IsEitherText content (without_batch version snapshot))
  replacing new version snapshot half start selector short start_is half_is moments =
      weaker m (disk_of j) new _ _ (moments bytes ready.keeps ready.synced) (λ image torn.
      replace_torn ready.text version snapshot short start start_is selector image
      (subst (λ (b : List ℕ). TornInTurn bytes start b 0 (selector ∷ []) image) half_is torn))
