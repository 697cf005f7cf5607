-- The store of a ledger at home is raised.
use Rattle.std.proofs.Common.{◌≡◌, ℕ, true, false, Option, Some, None, refl, sym, ap, ◌∙◌, inl, inr, is_some, Err, IsErrOf}
use Rattle.std.proofs.lemmas.Bool.{false≢true}
use Rattle.std.specs.Cmp.{nat_cmp_total}
use Rattle.coord_types.specs.Facade.{get}
use Rattle.coord_types.proofs.Tables.{get-empty}
use Rattle.coord_store.specs.Migrating.{RefusesMigration}
use Rattle.coord_store.specs.declared.faults.StoreFault.{StoreFault}
use Rattle.coord_store.specs.declared.faults.StoreFault.TheVariants.{OutOfMemory, Device, NotQuiet, Stopped}
use Rattle.coord_world.specs.Facade.{World, is_ready, no_world, state, state_or_none}
use Rattle.coord_ledger.specs.Facade.{DriverState, LedgerState, Log, disk_held, disk_with, settled_world}
use Rattle.coord_drill.specs.Facade.{IsEmptyLog, IsPassingFault, store_fault}

pub none_torn : {A : Type 0} (o : Option A) → is_some o ≡ false → o ≡ None
none_torn None is = refl
none_torn (Some x) is = let no : ⊥ = cc in absurd no

-- a store that was not torn is not refused as stopped
pub never_stopped : {A : Type 0} (torn : Option A) → torn ≡ None → (fault : StoreFault) → fault ≡ Stopped → (IsErrOf {T = Unit {0}} (Err fault) Stopped → is_some torn ≡ true) → ⊥
never_stopped torn none fault stopped only = let on = only (ap (λ x. Err x) stopped) in let off = ap is_some none in let no : ⊥ = cc in no

-- no node of the empty world is in a reset
none_busy : (version u : ℕ) → is_ready (state (no_world version) u).mode ≡ true
none_busy version u = let none : get (no_world version).nodes u ≡ None = get-empty nat_cmp_total u in ap (λ o. is_ready (state_or_none o).mode) none

never_busy : (w : World) (version u : ℕ) → w ≡ no_world version → is_ready (state w u).mode ≡ false → ⊥
never_busy w version u is busy = false≢true (sym busy ∙ ap (λ (v : World). is_ready (state v u).mode) is ∙ none_busy version u)

is_empty_world : (log : Log) → IsEmptyLog log → (version : ℕ) × (settled_world log ≡ no_world version)
is_empty_world log (inl one) = (1, ap settled_world one)
is_empty_world log (inr two) = (2, ap settled_world two)

-- why that of an empty world is not raised
pub raising_cause : (log : Log) (w : World) (fault : StoreFault) → w ≡ settled_world log → IsEmptyLog log → RefusesMigration w fault → (fault ≡ Stopped → ⊥) → IsPassingFault (store_fault fault)
raising_cause log w OutOfMemory is empty refuses going = inl refl
raising_cause log w Device is empty refuses going = inr refl
raising_cause log w (NotQuiet u) is empty refuses going = let one = is_empty_world log empty in absurd (never_busy w one.0 u (is ∙ one.1) refuses.1.busy)
raising_cause log w Stopped is empty refuses going = absurd (going refl)
raising_cause log w fault is empty refuses going = absurd refuses

-- the disk of a driver of which no flight is out
pub disk_home : {D : Type 0} (d : DriverState D) (l : LedgerState D) (disk : D) → d.flight ≡ None → l ≡ d.ledger → l.disk ≡ Some disk → disk_held d ≡ Some disk
disk_home {D} d l disk none same there = ap (disk_with d.ledger.disk) none ∙ sym (ap (λ (k : LedgerState D). k.disk) same) ∙ there
