-- The age of a desk's instance, which depends on the number of steps that the desk keeps.
use Rattle.std.specs.Prelude.{ℕ, ◌*◌, ◌<◌, ◌≤◌, Bool, true, false, Result, Ok, Err}
use Rattle.coord_admin.specs.declared.fault.ServeFault.{ServeFault}
use Rattle.coord_admin.specs.declared.instance_limit.Age.{Age}
use Rattle.coord_admin.specs.declared.instance_limit.Age.TheVariants.{Young, Old, Over}
use Rattle.coord_admin.specs.declared.session.Ended.{Ended}
use Rattle.coord_admin.specs.declared.session.Ended.TheVariants.{Closed, Cut, Input}

-- An instance with this limit is old once its desk keeps that many steps, and over once it keeps twice as
-- many.
abbrev pub IsAge : ℕ → ℕ → Age → Type 0
IsAge most kept Young = kept < most
IsAge most kept Old = (most ≤ kept) × (kept < 2 * most)
IsAge most kept Over = 2 * most ≤ kept

-- `keeps d n`: the desk d may keep n steps
module _ {D : Type 0} (keeps : D → ℕ → Type 0) where
  abbrev pub HasKept : D → ℕ → Type 0
  HasKept d most = (kept : ℕ) × keeps d kept × (most ≤ kept)

  abbrev pub HasKeptFewer : D → ℕ → Type 0
  HasKeptFewer d most = (kept : ℕ) × keeps d kept × (kept < most)

-- whether the server closed or cut the connection, so that the client gets time to read its last answer
abbrev pub ends_here : Result Ended ServeFault → Bool
ends_here (Ok Input) = false
ends_here (Ok Closed) = true
ends_here (Ok Cut) = true
ends_here (Err fault) = false
