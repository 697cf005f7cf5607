-- A newer start has a greater count, so a resource that has accepted it keeps the older ones out.
use Rattle.std.proofs.Common.{◌≡◌, ◌⊎◌, ℕ, zero, suc, ◌+◌, ◌<◌, ◌≤◌, nat_le, Bool, true, false, List, [], ◌∷◌, refl, sym, ap, subst, ◌∙◌, arith, inl, inr}
use Rattle.std.proofs.lemmas.Bool.Decides.{nat_tests}
use Rattle.coord_types.specs.Facade.{NodeState}
use Rattle.coord_types.specs.Table.{has}
use Rattle.coord_world.specs.Facade.{World, next, state}
use Rattle.coord_world.specs.laws.Raised.{raised}
use Rattle.coord_world.specs.laws.Trails.{IsSound}
use Rattle.coord_member.specs.declared.view.Entry.TheVariants.{Node}
use Rattle.coord_member.specs.NoMix.{IsOneOf}
use Rattle.coord_member.specs.Rule.{is_alone}
use Rattle.coord_member.specs.Fence.{Fence, Resource, accepts, after_fence, after_fences}
use Rattle.coord_member.proofs.Fences.{later_is_greater}
use Rattle.coord_following.specs.Fences.{Fixes, IsOlder, NamesRuns, NewerHasMore, OlderStaysOut, Tags}
use Rattle.coord_following.specs.Histories.{Turn, Takes, Raises, IsHistory, adds, life_at, turned, world_at}
use Rattle.coord_following.proofs.Lives.{IsFurther, counts_more, further_at}
use Rattle.coord_following.proofs.Views.{link_made, view_of}

-- ---- counts

never_fewer : (w : World) (k : ℕ) (turns : List Turn) → w.count ≤ (world_at w k turns).count
never_fewer w zero turns = omega arith
never_fewer w (suc k) [] = omega arith
never_fewer w (suc k) (t ∷ turns) = let one = counts_more w t in let rest = never_fewer (turned w t) k turns in omega (arith, one, rest)

-- a node of the same instance, as it was
record IsSame (first second : ℕ) (s r : NodeState) : Type 0 where
  life : first ≡ second
  row : s ≡ r

more_or_same : (w : World) (k : ℕ) (turns : List Turn) (x : ℕ) → (w.count < (world_at w k turns).count) ⊎ IsSame 0 (life_at k turns x) (state w x) (state (world_at w k turns) x)
more_or_same w zero turns x = inr (record { life = refl; row = refl })
more_or_same w (suc k) [] x = inr (record { life = refl; row = refl })
more_or_same w (suc k) (Takes s ∷ turns) x = inl (let rest = never_fewer (next w s) k turns in omega (arith, rest))
more_or_same w (suc k) (Raises ∷ turns) x =
    elim (more_or_same (raised w) k turns x) [
      | inl more ↦ inl more
      | inr same ↦ inr (record { life = let e = same.life in omega (arith, e); row = same.row })
    ]

more_or_same_at : (w : World) (j k : ℕ) (turns : List Turn) (x : ℕ) → j ≤ k → ((world_at w j turns).count < (world_at w k turns).count) ⊎ IsSame (life_at j turns x) (life_at k turns x) (state (world_at w j turns) x) (state (world_at w k turns) x)
more_or_same_at w zero k turns x le = more_or_same w k turns x
more_or_same_at w (suc j) zero turns x le = absurd (omega (arith, le))
more_or_same_at w (suc j) (suc k) [] x le = inr (record { life = refl; row = refl })
more_or_same_at w (suc j) (suc k) (t ∷ turns) x le =
    elim (more_or_same_at (turned w t) j k turns x (omega (arith, le))) [
      | inl more ↦ inl more
      | inr same ↦ inr (record { life = ap (λ n. adds x t + n) same.life; row = same.row })
    ]

-- ---- who is newer

module _ (w : World) (turns : List Turn) (tag : Tags) (i j : ℕ) (f g : Fence) (older : Fixes w turns tag i f) (newer : Fixes w turns tag j g) (sound : IsSound w) (history : IsHistory w turns) where
  -- the node of the older start, as it was then, and as the newer one was shown it
  epoch_then : older.row.epoch ≡ (state (world_at w older.turn turns) i).epoch
  epoch_then = older.shown.epoch

  confirmed_then : (state (world_at w older.turn turns) i).epoch ≡ (state (world_at w older.turn turns) i).confirmed
  confirmed_then = ((older.shown.through.0 older.through) i ([], refl)).confirmed

  confirmed_later : (e : ℕ) → IsOneOf (Node i e) newer.party → e ≡ (state (world_at w newer.turn turns) i).confirmed
  confirmed_later e there =
      let is = newer.shown.party.nodes i e there in
      is.1.1 ∙ ((newer.shown.through.0 newer.through) i is.1.0).confirmed

  has_later : (e : ℕ) → IsOneOf (Node i e) newer.party → has (world_at w newer.turn turns).nodes i ≡ true
  has_later e there = (newer.shown.party.nodes i e there).0

  later_has_more : IsOlder w turns tag i j f g older newer → (world_at w older.turn turns).count < (world_at w newer.turn turns).count
  later_has_more is = of (nat_le older.turn newer.turn) refl
    where
      epoch : is.epoch ≡ (state (world_at w newer.turn turns) i).confirmed
      epoch = confirmed_later is.epoch is.there

      same_row : IsSame (life_at older.turn turns i) (life_at newer.turn turns i) (state (world_at w older.turn turns) i) (state (world_at w newer.turn turns) i) → ⊥
      same_row same =
          elim is.later [
            | inl less ↦ let e = same.life in omega (arith, e, less)
            | inr equal ↦
                let less = equal.1 in
                let rows : (state (world_at w older.turn turns) i).confirmed ≡ (state (world_at w newer.turn turns) i).confirmed = ap (λ (s : NodeState). s.confirmed) same.row in
                let first = epoch_then in let second = confirmed_then in let third = epoch in
                omega (arith, less, rows, first, second, third)
          ]

      further : IsFurther (life_at newer.turn turns i) (state (world_at w newer.turn turns) i).confirmed (life_at older.turn turns i) (state (world_at w older.turn turns) i).confirmed → ⊥
      further back =
          elim is.later [
            | inl less ↦ elim back [ inl more ↦ omega (arith, less, more) | inr same ↦ let e = same.0 in omega (arith, less, e) ]
            | inr equal ↦
                let less = equal.1 in let lives = equal.0 in
                let first = epoch_then in let second = confirmed_then in let third = epoch in
                elim back [ inl more ↦ omega (arith, lives, more) | inr same ↦ let le = same.1 in omega (arith, less, le, first, second, third) ]
          ]

      of : (b : Bool) → nat_le older.turn newer.turn ≡ b → (world_at w older.turn turns).count < (world_at w newer.turn turns).count
      of true before =
          elim (more_or_same_at w older.turn newer.turn turns i (grind (arith, nat_tests, before))) [
            | inl more ↦ more
            | inr same ↦ absurd (same_row same)
          ]
      of false after_fence =
          absurd (further (further_at w newer.turn older.turn turns i sound history (grind (arith, nat_tests, after_fence)) (has_later is.epoch is.there) older.shown.there))

  newer_counts : IsOlder w turns tag i j f g older newer → f.count < g.count
  newer_counts is = let less = later_has_more is in let first = older.count_is in let second = newer.count_is in omega (arith, less, first, second)

  -- ---- two starts of one run

  same_life : older.party ≡ newer.party → (is_alone older.party ≡ true → ⊥) → life_at older.turn turns i ≡ life_at newer.turn turns i
  same_life same others =
      elim (view_of w older.turn turns i older.row older.party sound history older.shown).linked [
        | inl link ↦
            sym (link_made w older.turn turns i i older.party sound history older.shown.party link.0 link.1 link.2)
            ∙ link_made w newer.turn turns j i newer.party sound history newer.shown.party link.0 (subst (λ p. IsOneOf link.0 p) same link.1) link.2
        | inr alone ↦ absurd (others (ap is_alone alone))
      ]

  same_run : NamesRuns tag → IsOlder w turns tag i j f g older newer → f.tag ≡ g.tag → ⊥
  same_run names is same =
      let named = names older.party newer.party f.count g.count (sym older.tag_is ∙ (same ∙ newer.tag_is)) in
      let less = newer_counts is in
      let others : is_alone older.party ≡ true → ⊥ = λ alone. let e = named.1 alone in omega (arith, e, less) in
      let lives = same_life named.0 others in
      let there : IsOneOf (Node i is.epoch) older.party = subst (λ p. IsOneOf (Node i is.epoch) p) (sym named.0) is.there in
      let epoch : is.epoch ≡ (state (world_at w older.turn turns) i).epoch = (older.shown.party.nodes i is.epoch there).1.1 in
      elim is.later [
        | inl fewer ↦ omega (arith, fewer, lives)
        | inr equal ↦ let lower = equal.1 in let first = epoch_then in omega (arith, lower, epoch, first)
      ]

  stays_out : NamesRuns tag → IsOlder w turns tag i j f g older newer → (r : Resource) (between : List Fence) → accepts r g ≡ true → accepts (after_fences (after_fence r g) between) f ≡ false
  stays_out names is r between accepted = of (accepts (after_fences (after_fence r g) between) f) refl
    where
      of : (b : Bool) → accepts (after_fences (after_fence r g) between) f ≡ b → b ≡ false
      of false e = refl
      of true e =
          absurd (elim (later_is_greater r g f between accepted e) [
            | inl same ↦ same_run names is same
            | inr more ↦ let less = newer_counts is in omega (arith, less, more)
          ])

pub newer_has_more : NewerHasMore
newer_has_more w turns tag i j f g older newer sound history is = newer_counts w turns tag i j f g older newer sound history is

pub older_stays_out : OlderStaysOut
older_stays_out w turns tag i j f g older newer sound history names is r between accepted = stays_out w turns tag i j f g older newer sound history names is r between accepted
