-- Paths of links.
use Rattle.std.proofs.Common.{◌≡◌, ℕ, true, List, [], ◌∷◌, ◌++◌, refl, subst}
use Rattle.coord_world.specs.protocol.NumberedWorld.{World, is_linked}
use Rattle.coord_world.specs.laws.Waves.{IsPath, Connected}

module _ (w : World) where
  -- what passes over every link goes along a path
  pub along : (P : ℕ → Type 0) → ((x y : ℕ) → P x → is_linked w x y ≡ true → P y) → (u v : ℕ) (path : List ℕ) → IsPath w u path v → P u → P v
  along P over u v [] same p = subst P same p
  along P over u v (x ∷ path) links p = along P over x v path links.1 (over u x p links.0)

  -- a path with one more link
  longer : (u x y : ℕ) (path : List ℕ) → IsPath w u path x → is_linked w x y ≡ true → IsPath w u (path ++ y ∷ []) y
  longer u x y [] same link = (rw same link, refl)
  longer u x y (z ∷ path) links link = (links.0, longer z x y path links.1 link)

  -- each node is connected with itself
  pub connected_self : (u : ℕ) → Connected w u u
  connected_self u = ([], refl)

  -- a node is connected with those that are linked with a node that it is connected with
  pub connected_further : (u x y : ℕ) → Connected w u x → is_linked w x y ≡ true → Connected w u y
  connected_further u x y c link = (c.0 ++ y ∷ [], longer u x y c.0 c.1 link)
