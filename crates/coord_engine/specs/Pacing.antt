-- When a flight starts. A flight that starts early may be less full than it could be: packets of the last
-- flight may not have become steps yet, and callers that the last flight answered may be about to order again.
-- So both are counted, and a flight waits for them briefly.
use Rattle.std.specs.Prelude.{ℕ, ◌+◌, Bool, true, false, ◌&&◌, ◌||◌, not, if◌then◌else◌, nat_eq, nat_le, is_some, length, take}
use Rattle.std.specs.List.{count_by}
use Rattle.coord_types.specs.declared.limits.TheConstants.{MAX_BATCH_STEPS}
use Rattle.coord_types.specs.declared.steps.Step.{Step}
use Rattle.coord_types.specs.declared.steps.Step.TheVariants.{Order, Take, Clear}
use Rattle.coord_ledger.specs.machine.Log.{pending}
use Rattle.coord_engine.specs.declared.guarded.pacing.TheConstants.{MOST_AWAITED}
use Rattle.coord_engine.specs.State.{GuardedState}

-- the number of accepted steps that are not settled
abbrev pub pending_count : {D : Type 0} → GuardedState D → ℕ
pending_count g = length (pending g.ledger.log)

-- whether nothing more will be flushed: the ledger has stopped, or nothing is pending and no more steps are
-- accepted
abbrev pub is_over : {D : Type 0} → GuardedState D → Bool
is_over g = is_some g.ledger.log.doubt || (g.finishing && nat_eq (pending_count g) 0)

-- whether nothing can be flushed yet: nothing is pending, or another flight is out
abbrev pub is_idle : {D : Type 0} → GuardedState D → Bool
is_idle g = not (is_over g) && (nat_eq (pending_count g) 0 || is_some g.ledger.out)

-- whether a flight need not wait: no packet is being handled, and at least as many steps are pending as were
-- expected
abbrev pub is_gathered : {D : Type 0} → GuardedState D → Bool
is_gathered g = nat_eq g.in_hand 0 && nat_le g.awaited (pending_count g)

-- whether a flight starts at once: it need not wait, it is full, or no more steps are accepted
abbrev pub starts_at_once : {D : Type 0} → GuardedState D → Bool
starts_at_once g = is_gathered g || (nat_le MAX_BATCH_STEPS (pending_count g) || g.finishing)

-- whether a waiting flusher must be woken: something can be flushed now and could not be before, or a flight
-- starts at once. In the first case the flusher still waits briefly before the flight starts.
abbrev pub wakes_flusher : {D : Type 0} → Bool → GuardedState D → Bool
wakes_flusher was_idle g = not (is_idle g) && (was_idle || starts_at_once g)

-- the state in which n packets are in hand
abbrev pub with_in_hand : {D : Type 0} → GuardedState D → ℕ → GuardedState D
with_in_hand g n = record g { in_hand = n }

-- the state in which the next flight waits for n steps
abbrev pub with_awaited : {D : Type 0} → GuardedState D → ℕ → GuardedState D
with_awaited g n = record g { awaited = n }

-- whether a step is an order. A caller waits for the reply to an order; nobody waits for the reply to a
-- packet.
abbrev pub is_order : Step → Bool
is_order (Order client number command) = true
is_order (Take packet) = false
is_order (Clear receipt) = false

-- the number of orders in the next flight
abbrev pub leaving_orders : {D : Type 0} → GuardedState D → ℕ
leaving_orders g = count_by is_order (take MAX_BATCH_STEPS (pending g.ledger.log))

-- the number of steps that a flight waits for if n steps are expected: n, or none if n steps would fill most
-- of a flight anyway
abbrev pub worth_awaiting : ℕ → ℕ
worth_awaiting n = if nat_le n MOST_AWAITED then n else 0

-- the state in which the next flight waits for the callers that were just answered, who are likely to order
-- again, and for the steps already pending. A single caller is never waited for, since its own step is the
-- expected one.
abbrev pub with_callers_awaited : {D : Type 0} → GuardedState D → GuardedState D
with_callers_awaited g = with_awaited g (worth_awaiting (g.awaited + pending_count g))
