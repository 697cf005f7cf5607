-- Rows hold no float.
use Rattle.std.proofs.Common.{◌≡◌, false, List, [], ◌∷◌, map, refl}
use Rattle.serde_json.specs.View.{items_of}
use Rattle.serde_json.specs.Data.{Data}
use Rattle.serde_json.specs.Written.{has_float, items_have_float}
use Rattle.coord_admin.specs.Replies.{link_row, node_row, reply}
use Rattle.coord_view.specs.Shown as shown
use Rattle.coord_admin.specs.declared.answer.Answer.TheVariants.{Shown}

no_float-rows : {X : Type 0} (row : X → Data) → ((x : X) → has_float (row x) ≡ false) → (xs : List X) → items_have_float (items_of (map row xs)) ≡ false
no_float-rows row h [] = refl
no_float-rows row h (x ∷ xs) = rw (h x) (no_float-rows row h xs)

pub no_float-shown : (v : shown.Shown) → has_float (reply (Shown v)) ≡ false
no_float-shown v = rw (no_float-rows link_row (λ _. refl) v.links, no_float-rows node_row (λ _. refl) v.nodes) refl
