-- What the refusal of a probe reveals about a client's last number. A probe is an order to confirm epoch 0, with some
-- number.
use Rattle.std.specs.Prelude.{◌≡◌, ◌≢◌, ℕ, ◌+◌, ◌==◌, false, Option, Some, None, Err, if◌then◌else◌}
use Rattle.coord_types.specs.Table.{get}
use Rattle.coord_types.specs.declared.refusals.Refusal.{Refusal}
use Rattle.coord_types.specs.declared.refusals.Refusal.TheVariants.{OutOfTurn, NumberReused, UnknownNode, BadEpoch}
use Rattle.coord_types.specs.declared.steps.Command.{Command}
use Rattle.coord_types.specs.declared.steps.Command.TheVariants.{Confirm}
use Rattle.coord_types.specs.declared.steps.Session.{Session}
use Rattle.coord_types.specs.declared.steps.Step.TheVariants.{Order}
use Rattle.coord_world.specs.Facade.{World, accepts, is_exhausted, is_unknown, last_number}

abbrev pub probe : ℕ → Command
probe u = Confirm u 0

-- the refusal of a probe with number n; it depends only on the client's last number and, if n is the next number, on
-- whether node u exists
abbrev pub answer_to_probe : World → ℕ → ℕ → ℕ → Refusal
answer_to_probe w last n u =
    if n == last + 1 then (if is_unknown w u then UnknownNode else BadEpoch)
    else (if n == 0 then OutOfTurn
    else (if n == last then NumberReused else OutOfTurn))

-- the client's last order is not a probe
abbrev pub IsNoProbe : Option Session → Type 0
IsNoProbe None = Unit {0}
IsNoProbe (Some s) = (u : ℕ) → s.command ≢ probe u

-- If the world still takes steps and the client's last order is not a probe, then a probe is refused, whatever
-- its number is. The refusal shows whether the number is the client's last number, its next number or another
-- number
abbrev pub CountIsFound : Type 0
CountIsFound = (w settled : World) (c n u : ℕ) → is_exhausted w ≡ false → IsNoProbe (get w.sessions c) →
    accepts w settled (Order c n (probe u)) ≡ Err (answer_to_probe w (last_number (get w.sessions c)) n u)
