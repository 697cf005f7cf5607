-- Members that see the worlds of one store.
use Rattle.std.specs.Prelude.{ℕ, ◌==◌, ◌≤◌, List, [], ◌∷◌, if◌then◌else◌}
use Rattle.coord_world.specs.Facade.{World}
use Rattle.coord_world.specs.laws.Trails.{IsSound}
use Rattle.coord_member.specs.Members.{Event, Look, new_world, run}
use Rattle.coord_member.specs.NoMix.{IsUnmixed}
use Rattle.coord_look.specs.Shown.{IsShownTo}
use Rattle.coord_following.specs.Histories.{IsHistory, Turn, world_at}

-- Each look sees the world after the first k turns, for some k that is at least the k of the same member's previous look. Members
-- need not see the same worlds, or the newest world. All other events are arbitrary: files are lost, and messages arrive late,
-- repeatedly or never
abbrev pub AreShown : World → List Turn → (ℕ → ℕ) → List Event → Type 0
AreShown w turns last [] = Unit {0}
AreShown w turns last (Look i row now ∷ events) = (k : ℕ) × ((last i ≤ k) × (IsShownTo (world_at w k turns) i row now × AreShown w turns (λ j. if j == i then k else last j) events))
AreShown w turns last (_ ∷ events) = AreShown w turns last events

-- members that see the worlds of a store's history, begin with empty files and follow the rule mix no runs, even if they lose
-- their files at any moment; the history begins with a sound world and may include the migration
abbrev pub NoMixOverAStore : Type 0
NoMixOverAStore = (w : World) (turns : List Turn) (events : List Event) → IsSound w → IsHistory w turns → AreShown w turns (λ i. 0) events → IsUnmixed (run new_world events)
