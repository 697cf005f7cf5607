-- A store as contracts see it, and the worlds that the images of its disk give.
use Rattle.std.specs.Prelude.{◌≡◌, ◌⊎◌, ℕ, Bool, true, List, Option, Some, None, is_some}
use Rattle.coord_codec.specs.Worlds.{world}
use Rattle.coord_disk.specs.Model.DiskModel.{DiskModel}
use Rattle.coord_disk.specs.Model.Present.{Present, IsImage, whole}
use Rattle.coord_journal.specs.Facade.{Content, IsHalfSize, IsReady, disk_of, formatted, has_stopped as journal_has_stopped}
use Rattle.coord_journal.specs.declared.journal.Journal.{Journal}
use Rattle.coord_world.specs.Facade.{Legal, World, no_world, rows_of}
use Rattle.coord_store.specs.Recovered.{Gives, Recovered}

-- A store: its disk, its world and, after a torn commit, the world that the commit tried to make. After a
-- fault inside a checkpoint `torn` holds that world too, although only the old world can then be on disk.
pub record Kept (D : Type 0) : Type 0 where
  pub disk : D
  pub world : World
  pub torn : Option World

-- whether a commit was torn; if so, each later commit is refused
abbrev pub has_stopped : {D : Type 0} → Kept D → Bool
has_stopped kept = is_some kept.torn

-- these bytes give one of the two worlds
abbrev pub GivesEither : World → World → List ℕ → Type 0
GivesEither v w bytes = Recovered bytes v ⊎ Recovered bytes w

-- These bytes give the store's world or, after a torn commit, possibly the world that the commit tried to
-- make.
abbrev pub GivesKept : {D : Type 0} → Kept D → List ℕ → Type 0
GivesKept kept bytes = Recovered bytes kept.world ⊎ ((w : World) × (kept.torn ≡ Some w) × Recovered bytes w)

-- each crash image of a store's disk gives the store's world or, after a torn commit, possibly the world that
-- the commit tried to make
abbrev pub ImagesGive : {D : Type 0} → DiskModel D → Kept D → Type 0
ImagesGive m kept = (image : List ℕ) → IsImage (m.present kept.disk) image → GivesKept kept image

-- the journal is ready on a disk that keeps the model, and the journal's content gives this world
pub record Holds {D : Type 0} (m : DiskModel D) (journal : Journal D) (w : World) : Type 0 where
  pub content : Content
  pub ready : IsReady m journal content
  pub gives : Gives content w

-- the invariant of a store's parts
pub record IsKept {D : Type 0} (m : DiskModel D) (journal : Journal D) (world : World) (torn : Option World) : Type 0 where
  pub legal : Legal world
  pub stopped : journal_has_stopped journal ≡ is_some torn
  pub holds : m.keeps_model (disk_of journal) ≡ true → torn ≡ None → Holds m journal world
  pub images : m.keeps_model (disk_of journal) ≡ true → ImagesGive m (record { disk = disk_of journal; world = world; torn = torn })

-- these bytes give this world
abbrev pub IsOnlyWorld : World → List ℕ → Type 0
IsOnlyWorld w bytes = Recovered bytes w

-- the content of a disk on which a store was just created
abbrev pub made : ℕ → ℕ → Present
made half_size version = whole (formatted half_size version ((world version).text (rows_of (no_world version))))

-- A store of this version was just created on this disk, with halves of this size. Its world has no steps.
pub record IsJustMade (half_size version : ℕ) (disk : Present) : Type 0 where
  pub bytes : disk ≡ made half_size version
  pub half : IsHalfSize half_size
  pub gives : Recovered disk.read (no_world version)
