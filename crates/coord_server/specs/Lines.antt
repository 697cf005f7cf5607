-- The order in which signals may be printed.
use Rattle.std.specs.Prelude.{ℕ, Bool, true, ◌&&◌, ◌||◌, ◌==◌, nat_lt, not}
use Rattle.coord_server.specs.declared.last_line.LastLine.{LastLine}

-- the state in which no signal of a step up to this one will be printed any more
abbrev pub nothing_since : ℕ → LastLine
nothing_since step = record { step = step; node = 0; is_second = true }

-- whether the signal of a step at a node may follow the last one: its step is later, or it is the second signal of the same step
-- and at another node
abbrev pub is_next : LastLine → ℕ → ℕ → Bool
is_next last step node = nat_lt last.step step || (((last.step == step) && not last.is_second) && not (last.node == node))

-- the state after this signal was printed
abbrev pub after_line : LastLine → ℕ → ℕ → LastLine
after_line last step node = record { step = step; node = node; is_second = last.step == step }
