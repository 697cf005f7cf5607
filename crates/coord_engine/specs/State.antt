-- The value under an engine's lock as contracts see it, the states that the value can have, and how they
-- change.
use Rattle.std.specs.Prelude.{◌≡◌, ℕ, ◌+◌, ◌≤◌, Bool, true, false, List, None, is_none, is_some, length, take, IfSome}
use Rattle.coord_disk.specs.Model.DiskModel.{DiskModel}
use Rattle.coord_disk.specs.Model.Present.{Present}
use Rattle.coord_types.specs.declared.steps.Step.{Step}
use Rattle.coord_world.specs.protocol.NumberedWorld.{World}
use Rattle.coord_ledger.specs.Facade.{FitsOut, IsConsistentLog, LedgerGives, LedgerState}

pub record GuardedState (D : Type 0) : Type 0 where
  pub ledger : LedgerState D
  pub start : ℕ  -- the length of the trail when the engine was created
  pub noted : ℕ  -- the number of steps that all shares have noted
  pub given : ℕ  -- the number of issued shares
  pub finishing : Bool  -- whether the engine accepts no more steps
  pub in_hand : ℕ  -- a hint: the number of packets that callers may still turn into steps
  pub awaited : ℕ  -- a hint: the number of steps that the next flight waits for; while a flight is out, the number of orders in it

-- the maximum number of shares. The count of accepted steps has one part for each share and one more part,
-- which the value under the lock keeps.
abbrev pub most_shares : ℕ
most_shares = 65535

-- The basis of an engine: what contracts use of its disk (whether the disk keeps the model, which bytes it may
-- hold, how often its device has failed), and the base and the steps of the ledger over which the engine was
-- created.
pub record Basis (D : Type 0) : Type 0 where
  pub keeps_model : D → Bool
  pub present : D → Present
  pub failures : D → ℕ
  pub base : World
  pub before : List Step

abbrev pub based_on : {D : Type 0} → DiskModel D → World → List Step → Basis D
based_on m base before = record { keeps_model = m.keeps_model; present = m.present; failures = m.failures; base = base; before = before }

-- The trail begins with the trail of the ledger over which the engine was created. After it come as many steps
-- as the shares have noted.
pub record HasGrown {D : Type 0} (b : Basis D) (g : GuardedState D) : Type 0 where
  pub same_base : g.ledger.log.base ≡ b.base
  pub since : g.start ≡ length b.before
  pub begins : take g.start g.ledger.log.trail ≡ b.before
  pub by_shares : length g.ledger.log.trail ≡ g.start + g.noted

-- The invariant of the value's type. The trail has grown by as many steps as the shares have noted. A flight
-- that is out has the next pending steps, and the store is away with it. After a stop no flight is out, and at
-- least one step of the trail is in doubt. The images of the disk give the world after the settled steps or,
-- after a stop, possibly the world after the steps in doubt.
pub record CanHold {D : Type 0} (b : Basis D) (g : GuardedState D) : Type 0 where
  pub log : IsConsistentLog g.ledger.log
  pub grown : HasGrown b g
  pub shares : g.given ≤ most_shares
  pub out : IfSome g.ledger.out (FitsOut g.ledger.log)
  pub home : is_some g.ledger.out ≡ is_none g.ledger.disk
  pub doubt : IfSome g.ledger.log.doubt (λ size. (1 ≤ size) × (g.ledger.log.settled + size ≤ length g.ledger.log.trail) × (g.ledger.out ≡ None))
  pub images : IfSome g.ledger.disk (λ disk. b.keeps_model disk ≡ true → LedgerGives b.present g.ledger disk)

-- the state of an engine that was just created over this ledger
abbrev pub guarded_over : {D : Type 0} → LedgerState D → GuardedState D
guarded_over l = record { ledger = l; start = length l.log.trail; noted = 0; given = 0; finishing = false; in_hand = 0; awaited = 0 }

-- the state with another ledger
abbrev pub with_ledger : {D : Type 0} → GuardedState D → LedgerState D → GuardedState D
with_ledger g l = record g { ledger = l }

-- the state with another ledger and this number of noted steps
abbrev pub with_noted : {D : Type 0} → GuardedState D → LedgerState D → ℕ → GuardedState D
with_noted g l n = record g { ledger = l; noted = n }

-- the state after one more share was issued
abbrev pub with_share : {D : Type 0} → GuardedState D → GuardedState D
with_share g = record g { given = g.given + 1 }

-- the state in which no more steps are accepted
abbrev pub with_finish : {D : Type 0} → GuardedState D → GuardedState D
with_finish g = record g { finishing = true }
