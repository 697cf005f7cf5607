-- What the type of the value under the lock keeps of its ledger, when the ledger changes.
use Rattle.std.proofs.Common.{◌≡◌, ◌≤◌, ◌+◌, ℕ, List, Option, Some, None, length, take, IfSome}
use Rattle.coord_types.specs.declared.steps.Step.{Step}
use Rattle.coord_world.specs.protocol.NumberedWorld.{World}
use Rattle.coord_ledger.specs.Facade.{LedgerState}

-- the ledger has this base, its trail begins with these steps, and no flight is out once it has stopped
abbrev pub Begun : {D : Type 0} → World → ℕ → List Step → LedgerState D → Type 0
Begun base start before l = (l.log.base ≡ base) × (take start l.log.trail ≡ before) × IfSome l.log.doubt (λ _. l.out ≡ None)

doubted : {D : Type 0} (l : LedgerState D) (o : Option ℕ) → IfSome o (λ size. (1 ≤ size) × (l.log.settled + size ≤ length l.log.trail)) → IfSome o (λ _. l.out ≡ None) → IfSome o (λ size. (1 ≤ size) × (l.log.settled + size ≤ length l.log.trail) × (l.out ≡ None))
doubted l None size home = tt
doubted l (Some n) size home = (size.0, size.1, home)

-- the steps in doubt, and that no flight is out then
pub of_doubt : {D : Type 0} (l : LedgerState D) → IfSome l.log.doubt (λ size. (1 ≤ size) × (l.log.settled + size ≤ length l.log.trail)) → IfSome l.log.doubt (λ _. l.out ≡ None) → IfSome l.log.doubt (λ size. (1 ≤ size) × (l.log.settled + size ≤ length l.log.trail) × (l.out ≡ None))
of_doubt l size home = doubted l l.log.doubt size home
