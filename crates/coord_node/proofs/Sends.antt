-- One message to each node of a set, from the least on.
use Rattle.std.proofs.Common.{◌≡◌, ℕ, List, [], ◌∷◌, ◌++◌, Some, map, sym, ap, ◌∙◌, append_assoc}
use Rattle.coord_types.specs.NodeSet.{NodeSet, first, items, remove}
use Rattle.coord_types.specs.declared.messages.Msg.{Msg}
use Rattle.coord_types.proofs.Sets.{items-first}

-- m to each
abbrev pub to_each : Msg → List ℕ → List (ℕ × Msg)
to_each m ks = map (λ k. (k, m)) ks

pub to_first : (rest : NodeSet) (m : Msg) (sends all : List (ℕ × Msg)) (k : ℕ) → first rest ≡ Some k → sends ++ to_each m (items rest) ≡ all → (sends ++ (k, m) ∷ []) ++ to_each m (items (remove rest k)) ≡ all
to_first rest m sends all k is so_far = append_assoc sends ((k, m) ∷ []) (to_each m (items (remove rest k))) ∙ ap (λ ks. sends ++ to_each m ks) (sym (items-first rest k is)) ∙ so_far
