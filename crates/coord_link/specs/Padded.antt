-- A lane's array: its queue, followed by padding.
use Rattle.std.specs.Prelude.{List, [], ◌∷◌}
use Rattle.coord_types.specs.declared.messages.Msg.{Msg}
use Rattle.coord_types.specs.declared.messages.Msg.TheVariants.{Ack}

-- a queue of at most four messages in an array of four; the padding is always the same, so equal queues have equal
-- arrays
abbrev pub padded : List Msg → List Msg
padded [] = Ack ∷ Ack ∷ Ack ∷ Ack ∷ []
padded (a ∷ []) = a ∷ Ack ∷ Ack ∷ Ack ∷ []
padded (a ∷ b ∷ []) = a ∷ b ∷ Ack ∷ Ack ∷ []
padded (a ∷ b ∷ c ∷ []) = a ∷ b ∷ c ∷ Ack ∷ []
padded (a ∷ b ∷ c ∷ d ∷ rest) = a ∷ b ∷ c ∷ d ∷ []
