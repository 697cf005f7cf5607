-- Along parents distances rise by one, so no chain of them comes back.
use Rattle.std.proofs.Common.{◌≡◌, ℕ, ◌+◌, true, List, [], ◌∷◌, Some, length, cond, eqb, sym, ap, ◌∙◌, arith}
use Rattle.std.proofs.lemmas.Bool.Decides.{nat_tests}
use Rattle.std.proofs.lemmas.List.{nil_from_length}
use Rattle.coord_types.specs.Facade.{contains}
use Rattle.coord_node.specs.Rules.{is_parent}
use Rattle.coord_world.specs.Facade.{InRange, Legal, World, state, view}
use Rattle.coord_world.specs.laws.Cycles.{IsAbove, IsChain, NoParentCycle}
use Rattle.coord_world.proofs.legal.Sound.{Sound}
use Rattle.coord_world.proofs.legal.SoundView.{sound_view}

module _ (w : World) (range : InRange w) (legal : Legal w) (second : w.version ≡ 2) where
  sound : Sound (view w)
  sound = sound_view w range legal

  -- one link of a chain
  one_further : (u v : ℕ) → IsAbove w u v → (state w v).distance ≡ (state w u).distance + 1
  one_further u v link =
      let parent : is_parent (state w v).parent u ≡ true = ap (λ o. is_parent o u) link.parent ∙ self in
      let near : contains (state w u).neighbours v ≡ true = sound.mirrored u v ∙ (sound.nodes v).parent_near u parent in
      let far = (sound.links u v near).distant link.below parent link.unreleased in
      far ∙ ap (λ n. cond (eqb n 1) 0 ((state w u).distance + 1)) second
    where
      self : is_parent (Some u) u ≡ true
      self = grind (arith, nat_tests)

  -- a whole chain
  further : (u v : ℕ) (path : List ℕ) → IsChain w u path v → (state w v).distance ≡ (state w u).distance + length path
  further u v [] same = ap (λ x. (state w x).distance) (sym same) ∙ omega arith
  further u v (x ∷ path) chain = omega (arith, further x v path chain.1, one_further u x chain.0)

  none_back : (u : ℕ) (path : List ℕ) → IsChain w u path u → path ≡ []
  none_back u path chain = nil_from_length path (omega (arith, further u u path chain))

pub no_parent_cycle : NoParentCycle
no_parent_cycle w u path range legal second chain = none_back w range legal second u path chain
