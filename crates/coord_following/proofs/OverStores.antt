-- Members that are shown the worlds of one store mix no runs.
use Rattle.std.proofs.Common.{◌≡◌, ℕ, ◌==◌, ◌≤◌, eqb, Bool, true, false, List, [], ◌∷◌, refl, sym, subst, arith, inl, inr, if◌then◌else◌}
use Rattle.std.proofs.lemmas.Bool.Decides.{nat_tests}
use Rattle.coord_types.specs.Table.{has}
use Rattle.coord_world.specs.Facade.{World, state}
use Rattle.coord_world.specs.laws.Trails.{IsSound}
use Rattle.coord_member.specs.declared.view.Row.{Row}
use Rattle.coord_member.specs.Honest.{Shown, nothing_shown, with_shown, IsHonest, IsLater}
use Rattle.coord_member.specs.Members.{Event, Look, Load, Crash, Forget, Lose, Send, Hear}
use Rattle.coord_member.proofs.Fair.{no_mix_honest}
use Rattle.coord_following.specs.Histories.{Turn, IsHistory, life_at, world_at}
use Rattle.coord_following.specs.Stores.{AreShown, NoMixOverAStore}
use Rattle.coord_following.proofs.Lives.{IsFurther, further_at}
use Rattle.coord_following.proofs.Views.{made, view_of}

from_nothing : (life confirmed : ℕ) → IsFurther 0 0 life confirmed
from_nothing life confirmed = of (eqb life 0) refl
  where
    of : (b : Bool) → eqb life 0 ≡ b → IsFurther 0 0 life confirmed
    of true none = inr (grind (arith, nat_tests, none), omega arith)
    of false some = inl (grind (arith, nat_tests, some))

later_by : (last : Shown) (life confirmed : ℕ) (row : Row) → row.confirmed ≡ confirmed → IsFurther last.life last.confirmed life confirmed → IsLater last life row
later_by last life confirmed row same (inl less) = inl less
later_by last life confirmed row same (inr at) = inr (at.0, let le = at.1 in omega (arith, le, same))

module _ (w : World) (turns : List Turn) (sound : IsSound w) (history : IsHistory w turns) where
  -- whatever a node is from some turn on, it is no earlier than its last shown row
  abbrev FollowsOn : ℕ → Shown → ℕ → Type 0
  FollowsOn i last from = (m : ℕ) → from ≤ m → has (world_at w m turns).nodes i ≡ true → IsFurther last.life last.confirmed (life_at m turns i) (state (world_at w m turns) i).confirmed

  -- node j, where node i was shown this after k turns
  follows_shown : (last : ℕ → Shown) (at : ℕ → ℕ) (i k : ℕ) (row : Row) → has (world_at w k turns).nodes i ≡ true → row.confirmed ≡ (state (world_at w k turns) i).confirmed → ((j : ℕ) → FollowsOn j (last j) (at j)) → (j : ℕ) →
      FollowsOn j (with_shown last i (life_at k turns i) row j) (if j == i then k else at j)
  follows_shown last at i k row there same all j =
      elim (j == i) as (λ b. ((j == i) ≡ b) → FollowsOn j (if b then (record { life = life_at k turns i; confirmed = row.confirmed }) else last j) (if b then k else at j)) [
        | true ↦ λ e m le now.
            let is : i ≡ j = grind (arith, nat_tests, e) in
            subst (λ n. IsFurther (life_at k turns i) row.confirmed (life_at m turns n) (state (world_at w m turns) n).confirmed) is
            (subst (λ c. IsFurther (life_at k turns i) c (life_at m turns i) (state (world_at w m turns) i).confirmed) (sym same)
            (further_at w k m turns i sound history le there (subst (λ n. has (world_at w m turns).nodes n ≡ true) (sym is) now)))
        | false ↦ λ e. all j
      ] refl

  honest : (last : ℕ → Shown) (at : ℕ → ℕ) (events : List Event) → ((j : ℕ) → FollowsOn j (last j) (at j)) → AreShown w turns at events → IsHonest (made w turns) last events
  honest last at [] all shown = tt
  honest last at (Look i row now ∷ events) all shown =
      let k = shown.0 in
      let is = shown.1.1.0 in (
        life_at k turns i,
        later_by (last i) (life_at k turns i) (state (world_at w k turns) i).confirmed row is.confirmed (all i k shown.1.0 is.there),
        view_of w k turns i row now sound history is,
        honest (with_shown last i (life_at k turns i) row) (λ j. if j == i then k else at j) events (follows_shown last at i k row is.there is.confirmed all) shown.1.1.1,
      )
  honest last at (Load i ∷ events) all shown = honest last at events all shown
  honest last at (Crash i ∷ events) all shown = honest last at events all shown
  honest last at (Forget i ∷ events) all shown = honest last at events all shown
  honest last at (Lose i ∷ events) all shown = honest last at events all shown
  honest last at (Send i ∷ events) all shown = honest last at events all shown
  honest last at (Hear i n ∷ events) all shown = honest last at events all shown

pub no_mix_over_a_store : NoMixOverAStore
no_mix_over_a_store w turns events sound history shown =
    no_mix_honest (made w turns) events (honest w turns sound history nothing_shown (λ i. 0) events (λ j m le there. from_nothing (life_at m turns j) (state (world_at w m turns) j).confirmed) shown)
