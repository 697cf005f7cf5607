-- The reasons why an engine can't be taken apart, with their numbers and names.
use Rattle.std.specs.Prelude.{◌≡◌, ◌≢◌, ℕ, ◌+◌, ◌<◌, ◌≤◌, true, false, List, codes, drop, is_none, length, take}
use Rattle.coord_types.specs.declared.steps.Step.{Step}
use Rattle.coord_world.specs.protocol.NumberedWorld.{World}
use Rattle.coord_ledger.specs.declared.ticket.Note.{Note}
use Rattle.coord_ledger.specs.machine.Log.{kinds_of, settled_count}
use Rattle.coord_engine.specs.Named.{IsNamed}
use Rattle.coord_engine.specs.State.{GuardedState}
use Rattle.coord_engine.specs.declared.closed.CloseFault.{CloseFault}
use Rattle.coord_engine.specs.declared.closed.CloseFault.TheVariants.{FlightOut, SharesMissing, NotNamed, NotSettled}

abbrev pub fault_number : CloseFault → ℕ
fault_number FlightOut = 1
fault_number SharesMissing = 2
fault_number NotNamed = 3
fault_number NotSettled = 4

abbrev pub fault_name : CloseFault → List ℕ
fault_name FlightOut = codes "FlightOut"
fault_name SharesMissing = codes "SharesMissing"
fault_name NotNamed = codes "NotNamed"
fault_name NotSettled = codes "NotSettled"

-- The remaining ledger still has this base. After the steps `before` it accepted exactly the steps that the
-- shares noted, each once and with the kind of its reply. Each share noted its steps in order.
pub record IsSince (base : World) (before : List Step) (shares : List (List Note)) (left : World) (trail : List Step) : Type 0 where
  pub same_base : left ≡ base
  pub begins : take (length before) trail ≡ before
  pub named : IsNamed shares (base.count + length before) (drop (length before) trail) (drop (length before) (kinds_of base trail))

-- The shares noted exactly the steps accepted since the engine was created, with the kinds of their replies.
abbrev pub IsNamedBy : {D : Type 0} → GuardedState D → List (List Note) → Type 0
IsNamedBy g shares =
    IsNamed shares (g.ledger.log.base.count + g.start) (drop g.start g.ledger.log.trail) (drop g.start (kinds_of g.ledger.log.base g.ledger.log.trail))

-- An engine may be closed: no flight is out, every share is returned, and the shares noted exactly the
-- accepted steps.
pub record MayClose {D : Type 0} (g : GuardedState D) (shares : List (List Note)) : Type 0 where
  pub home : is_none g.ledger.disk ≡ false
  pub all : length shares ≡ g.given
  pub named : IsNamedBy g shares

-- The reasons why an engine can't be taken apart with these shares, if callers have seen the settled world up
-- to step `seen`. The first that applies is returned.
abbrev pub RefusesClosing : {D : Type 0} → GuardedState D → List (List Note) → ℕ → CloseFault → Type 0
RefusesClosing g shares seen FlightOut = is_none g.ledger.disk ≡ true
RefusesClosing g shares seen SharesMissing = (is_none g.ledger.disk ≡ false) × (length shares ≢ g.given)
RefusesClosing g shares seen NotSettled = (is_none g.ledger.disk ≡ false) × (length shares ≡ g.given) × (settled_count g.ledger.log < seen)
RefusesClosing g shares seen NotNamed = (is_none g.ledger.disk ≡ false) × (length shares ≡ g.given) × (seen ≤ settled_count g.ledger.log) × ¬ IsNamedBy g shares
