-- The steps of a list that keeps all nodes and links, one after the other.
use Rattle.std.proofs.Common.{◌≡◌, ℕ, false, List, [], ◌∷◌, ◌++◌, refl, sym, ap, ◌∙◌, All}
use Rattle.std.proofs.lemmas.List.Elements.{All-head, All-tail}
use Rattle.coord_types.proofs.Sets.{same_nodes}
use Rattle.coord_types.specs.Facade.{Ideal}
use Rattle.coord_types.specs.declared.steps.Kind.{Kind}
use Rattle.coord_types.specs.declared.steps.Step.{Step}
use Rattle.coord_node.specs.Rules.{is_empty}
use Rattle.coord_world.specs.Facade.{InRange, InTurn, IsFresh, Legal, World, fold, next, state, view}
use Rattle.coord_world.specs.laws.Waves.{changes_topology}
use Rattle.coord_world.proofs.View.{counts_next}
use Rattle.coord_world.proofs.lanes.LaneNumbers.{AllCount}
use Rattle.coord_world.proofs.legal.NextKeepsLegal.{sound_next}
use Rattle.coord_world.proofs.legal.Sound.{Sound}
use Rattle.coord_world.proofs.legal.SoundView.{sound_view}
use Rattle.coord_world.proofs.waves.Effect.{Effect, Silent, Starts}
use Rattle.coord_world.proofs.waves.Modes.{SameNear}
use Rattle.coord_world.proofs.waves.StepEffects.{StepEffect, step_effect, same_links}

-- a step, between the world before it and the world after it
pub record Goes (w : World) (s : Step) : Type 0 where
  pub before : Sound (view w)
  pub after : Sound (view (next w s))
  pub near : SameNear (view w) (view (next w s))
  pub effect : StepEffect (view w) (view (next w s)) s

-- steps, one after the other
abbrev pub AllGo : World → List Step → Type 0
AllGo w [] = Sound (view w)
AllGo w (s ∷ ss) = Goes w s × AllGo (next w s) ss

-- each step is fresh over some settled world
abbrev pub IsTaken : World → List Step → Type 0
IsTaken w steps = (before rest : List Step) (s : Step) → steps ≡ before ++ s ∷ rest → (settled : World) × IsFresh (fold w before) settled s

-- steps in turn are
pub taken_in_turn : (w : World) (steps : List Step) → InTurn w steps → IsTaken w steps
taken_in_turn w steps in_turn before rest s is = let turn = in_turn before rest s is in (fold w turn.0, turn.1.1.1)

module _ (w settled : World) (s : Step) (stays : changes_topology s ≡ false) (sound : Sound (view w)) (counts : AllCount w) (fresh : IsFresh w settled s) where
  -- the links are those of the nodes, before and after
  near_next : Sound (view (next w s)) → SameNear (view w) (view (next w s))
  near_next after a b = sym (after.linked a b) ∙ same_links w settled s stays counts fresh a b ∙ sound.linked a b

  -- one step
  goes : Goes w s
  goes =
      let after = sound_next w settled s sound counts fresh in
      record { before = sound; after = after; near = near_next after; effect = step_effect w settled s stays sound counts fresh }

-- step by step
pub running : (steps : List Step) (w : World) → Sound (view w) → AllCount w → IsTaken w steps → All (λ s. changes_topology s ≡ false) steps → AllGo w steps
running [] w sound counts taken stays = sound
running (s ∷ ss) w sound counts taken stays =
    let first = taken [] ss s refl in
    let stay = All-head (λ s. changes_topology s ≡ false) s ss stays in (
      goes w first.0 s stay sound counts first.1,
      running ss (next w s) (sound_next w first.0 s sound counts first.1) (counts_next w first.0 s counts first.1)
          (λ before rest q is. taken (s ∷ before) rest q (ap (λ l. s ∷ l) is)) (All-tail (λ s. changes_topology s ≡ false) s ss stays),
    )

-- a node keeps having neighbours
pub near_kept : (w : World) (s : Step) → Goes w s → (x : ℕ) → is_empty (state (next w s) x).neighbours ≡ is_empty (state w x).neighbours
near_kept w s goes x = ap is_empty (same_nodes _ _ (goes.near x))

pub fold-append : (xs ys : List Step) (w : World) → fold w (xs ++ ys) ≡ fold (fold w xs) ys
fold-append [] ys w = refl
fold-append (x ∷ xs) ys w = fold-append xs ys (next w x)

-- all steps of such a list
pub all_go : (w : World) (steps : List Step) → InRange w → Legal w → InTurn w steps → All (λ s. changes_topology s ≡ false) steps → AllGo w steps
all_go w steps range legal in_turn stays = running steps w (sound_view w range legal) legal.lanes (taken_in_turn w steps in_turn) stays

-- ---- starts

-- a step starts at one node, or at none
pub data Start (z y : Ideal) (signals : ℕ → ℕ) (starts : List ℕ) : Type 0 where
  nowhere : starts ≡ [] → Start z y signals starts
  somewhere : (t : ℕ) → Starts z y t → Silent signals → starts ≡ t ∷ [] → Start z y signals starts

-- by what the step does
pub start_of : (z y : Ideal) (signals : ℕ → ℕ) (starts : List ℕ) (k : Kind) → Effect z y signals starts k → Start z y signals starts
start_of z y signals starts k (Effect.passes passes silent e) = Start.nowhere e
start_of z y signals starts k (Effect.alone t passes lone signal kind e) = Start.nowhere e
start_of z y signals starts k (Effect.reaches t v reaches silent e) = Start.nowhere e
start_of z y signals starts k (Effect.turns t p turns silent e) = Start.nowhere e
start_of z y signals starts k (Effect.finishes t finishes signal e) = Start.nowhere e
start_of z y signals starts k (Effect.starts_at t start silent e) = Start.somewhere t start silent e
