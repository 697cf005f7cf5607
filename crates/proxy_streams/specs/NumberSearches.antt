-- The search for a client's last number: it tries numbers at growing distance from a starting point.
use Rattle.std.specs.Prelude.{ℕ, ◌+◌, ◌-◌, min, not, ◌&&◌, ◌==◌, Bool, true, false, if◌then◌else◌}

pub record Search : Type 0 where
  pub above : ℕ  -- the next number above
  pub below : ℕ  -- the next number below, or 0 if there is none
  pub is_below_next : Bool

-- the search that tries first the number after `near`, then `near`
abbrev pub search_from : ℕ → Search
search_from near = record { above = min (near + 1) 18446744073709551615; below = near; is_below_next = false }

abbrev pub goes_below : Search → Bool
goes_below s = s.is_below_next && not (s.below == 0)

abbrev pub tried : Search → ℕ
tried s = if goes_below s then s.below else s.above

abbrev pub after_try : Search → Search
after_try s = if goes_below s then record { above = s.above; below = s.below - 1; is_below_next = false }
    else record { above = min (s.above + 1) 18446744073709551615; below = s.below; is_below_next = true }
