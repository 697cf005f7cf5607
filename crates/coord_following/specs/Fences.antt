-- The fences of starts whose members saw the worlds of one store.
use Rattle.std.specs.Prelude.{◌≡◌, ◌⊎◌, ℕ, ◌<◌, true, false, List}
use Rattle.coord_world.specs.Facade.{World}
use Rattle.coord_world.specs.laws.Trails.{IsSound}
use Rattle.coord_member.specs.declared.view.Entry.{Entry}
use Rattle.coord_member.specs.declared.view.Entry.TheVariants.{Node}
use Rattle.coord_member.specs.declared.view.Row.{Row}
use Rattle.coord_member.specs.Rule.{is_alone}
use Rattle.coord_member.specs.NoMix.{IsOneOf}
use Rattle.coord_member.specs.Fence.{Fence, Resource, accepts, after_fence, after_fences}
use Rattle.coord_look.specs.Shown.{IsShownTo}
use Rattle.coord_following.specs.Histories.{IsHistory, Turn, life_at, world_at}

-- gives the tag of a party that was fixed when this many steps were settled
abbrev pub Tags : Type 0
Tags = List Entry → ℕ → List ℕ

-- Equal tags belong to equal parties. A start whose party is a single node shares its run with no other start, so there equal
-- tags also belong to equal numbers of settled steps
abbrev pub NamesRuns : Tags → Type 0
NamesRuns tag = (p q : List Entry) (m n : ℕ) → tag p m ≡ tag q n → (p ≡ q) × (is_alone p ≡ true → m ≡ n)

-- A start of node i fixes its party at a look that sees the world after `turn` turns. In that world, every node of the party is
-- in no reset and has confirmed its epoch. The start's fence has the step count of that world
pub record Fixes (w : World) (turns : List Turn) (tag : Tags) (i : ℕ) (f : Fence) : Type 0 where
  pub turn : ℕ
  pub row : Row
  pub party : List Entry
  pub shown : IsShownTo (world_at w turn turns) i row party
  pub through : row.through ≡ true
  pub count_is : f.count ≡ (world_at w turn turns).count
  pub tag_is : f.tag ≡ tag party f.count

-- the newer start's party has node i in a later life than the older start's look saw, or in the same life at a greater epoch
pub record IsOlder (w : World) (turns : List Turn) (tag : Tags) (i j : ℕ) (f g : Fence) (older : Fixes w turns tag i f) (newer : Fixes w turns tag j g) : Type 0 where
  pub epoch : ℕ
  pub there : IsOneOf (Node i epoch) newer.party
  pub later : (life_at older.turn turns i < life_at newer.turn turns i) ⊎ ((life_at older.turn turns i ≡ life_at newer.turn turns i) × (older.row.epoch < epoch))

-- the fence of the newer start has the greater count, whichever members' looks fixed the two parties, even if looks were late
abbrev pub NewerHasMore : Type 0
NewerHasMore =
    (w : World) (turns : List Turn) (tag : Tags) (i j : ℕ) (f g : Fence) (older : Fixes w turns tag i f) (newer : Fixes w turns tag j g) →
    IsSound w → IsHistory w turns → IsOlder w turns tag i j f g older newer → f.count < g.count

-- a resource that has accepted the newer start never accepts the older one, whatever fences are presented in between
abbrev pub OlderStaysOut : Type 0
OlderStaysOut =
    (w : World) (turns : List Turn) (tag : Tags) (i j : ℕ) (f g : Fence) (older : Fixes w turns tag i f) (newer : Fixes w turns tag j g) →
    IsSound w → IsHistory w turns → NamesRuns tag → IsOlder w turns tag i j f g older newer →
    (r : Resource) (between : List Fence) → accepts r g ≡ true → accepts (after_fences (after_fence r g) between) f ≡ false
