-- The world that the bytes of a device give.
use Rattle.std.specs.Prelude.{◌≡◌, ℕ, ◌+◌, List, [], ◌∷◌}
use Rattle.coord_types.specs.declared.steps.Step.{Step}
use Rattle.coord_batch.specs.Facade.{IsBatch, batch, pair}
use Rattle.coord_codec.specs.Worlds.{world}
use Rattle.coord_journal.specs.Text.{Content, IsText}
use Rattle.coord_world.specs.Facade.{InRange, IsFresh, Legal, World, fold, next, rows_of}

-- Each step is fresh over the world after the steps before it. The settled world is the same for all the
-- steps.
abbrev pub AllFresh : World → World → List Step → Type 0
AllFresh settled w [] = Unit {0}
AllFresh settled w (s ∷ steps) = IsFresh w settled s × AllFresh settled (next w s) steps

-- the body encodes these steps, whose numbers start with the world's next number
pub record IsBody (w : World) (body : List ℕ) (steps : List Step) : Type 0 where
  pub numbered : IsBatch w.version (w.count + 1) steps
  pub spelled : body ≡ (batch w.version).text (pair (w.count + 1) steps)

-- The body encodes steps that the world takes as fresh. This world is also the settled world for all these
-- steps.
pub record Takes (w : World) (body : List ℕ) (steps : List Step) : Type 0 where
  pub spells : IsBody w body steps
  pub fresh : AllFresh w w steps

-- batch by batch, these bodies lead from the world w to the world v
abbrev pub Replays : World → List (List ℕ) → World → Type 0
Replays w [] v = w ≡ v
Replays w (body ∷ bodies) v = (steps : List Step) × Takes w body steps × Replays (fold w steps) bodies v

-- the snapshot encodes this world, in the world's version
pub record HasSnapshot (content : Content) (w : World) : Type 0 where
  pub known : content.version ≡ w.version
  pub in_range : InRange w
  pub spelled : content.snapshot ≡ (world w.version).text (rows_of w)

-- the snapshot encodes a legal world, from which the batches lead to the world w
pub record Gives (content : Content) (w : World) : Type 0 where
  pub start : World
  pub snapshot : HasSnapshot content start
  pub legal : Legal start
  pub replays : Replays start content.batches w

-- these bytes are the text of a journal whose content gives this world
pub record Recovered (bytes : List ℕ) (w : World) : Type 0 where
  pub content : Content
  pub text : IsText content bytes
  pub gives : Gives content w
