-- Raising the store on a disk, from what its parts answer.
use Rattle.std.proofs.Common.{◌≡◌, ◌≢◌, ℕ, Bool, true, false, List, Option, Some, None, IfSome, is_some, Result, Ok, Err, inl, inr, refl, subst, if◌then◌else◌, OnOk, IfOk, IfErr, IsErrOf, MatchResult, arith}
use Rattle.std.proofs.lemmas.Bool.Decides.{nat_tests}
use Rattle.coord_disk.specs.Model.DiskModel.{DiskModel}
use Rattle.coord_disk.specs.Model.Present.{Present}
use Rattle.coord_store.specs.Facade.{GivesEither, GivesKept, IsOpenFault, Kept, Recovered, RefusesOpen, has_stopped, risen}
use Rattle.coord_store.specs.declared.faults.StoreFault.{StoreFault}
use Rattle.coord_store.specs.declared.faults.StoreFault.TheVariants as of_store
use Rattle.coord_world.specs.protocol.NumberedWorld.{World}
use Rattle.coord_commands.specs.Ending.{IsOfWriting}
use Rattle.coord_commands.specs.Folders.{known_of}
use Rattle.coord_commands.specs.Migrating.{EndsRaising, GivesEitherVersion, IsMigratedLine, IsOfMigrating, IsOfRaising, IsRaised, Raises, RaisesNamed, ReadsAsBefore, RefusesRaising, failures_in_migration}
use Rattle.coord_commands.specs.Printed.{migrated_line}
use Rattle.coord_commands.specs.declared.fault.Fault.{Fault}
use Rattle.coord_commands.specs.declared.fault.Fault.TheVariants.{Usage, Read, Write, Socket, TooManyReads, OutOfMemory, Topology, Store, Refused, NotClosed}

-- a predicate on a disk that keeps the model holds for its known content
pub if_present : (keeps : Bool) (disk : Present) (P : Present → Type 0) → (keeps ≡ true → P disk) → IfSome (if keeps then Some disk else None) P
if_present true disk P holds = holds refl
if_present false disk P holds = tt

-- a relation of two disks that keep the model holds for their known contents
pub if_both : (keeps keeps' : Bool) (disk disk' : Present) (P : Present → Present → Type 0) → (keeps ≡ true → keeps' ≡ true → P disk disk') → IfSome (if keeps then Some disk else None) (λ old. IfSome (if keeps' then Some disk' else None) (λ new. P old new))
if_both keeps keeps' disk disk' P h1 = grind (arith, nat_tests)

no_memory : (known : Option Present) → IfSome known (λ old. RefusesOpen old.read of_store.OutOfMemory)
no_memory None = tt
no_memory (Some disk) = inl (inl refl)

-- a store that is not opened is not raised
pub not_opened : (before after : Option Present) (fault : StoreFault) → IsOpenFault fault → IfSome before (λ old. RefusesOpen old.read fault) → (fault ≢ of_store.Device → ReadsAsBefore before after) → GivesEitherVersion before after → IsOfRaising before after (Store fault)
not_opened before after fault h1 h2 h3 h4 = grind (arith, nat_tests)

-- the line of a store that was raised
pub line_of : {A : Type 0} (text : A → List ℕ) (ended : Result A Fault) (before after : Option Present) (w v : World) (torn : Option World) → IfOk ended (λ line. text line ≡ migrated_line w.count)
    → OnOk ended (v ≡ risen w) → OnOk ended (torn ≡ None) → (v ≡ risen w → torn ≡ None → IsRaised before after w) → IfOk ended (λ line. IsMigratedLine before after (text line))
line_of text (Ok line) before after w v torn is world going raised = record { world = w; is_raised = raised world going; counted = is }
line_of text (Err fault) before after w v torn is world going raised = tt

-- a torn migration: an image gives the world in one version or the other
pub either_of : {D : Type 0} (kept : Kept D) (w v : World) (image : List ℕ) → kept.world ≡ w → kept.torn ≡ Some v → GivesKept kept image → GivesEither w v image
either_of kept w v image h1 h2 h3 = grind (arith, nat_tests)

module _ {A : Type 0} {Same Torn : Type 0} (ended : Result A Fault) (before after : Option Present) (w : World) (torn : IsErrOf ended (Store of_store.Device) → Torn) (stopped : IsErrOf ended (Store of_store.Stopped) → ⊥) (given : IfSome before (λ old. Recovered old.read w)) (reads : Same → ReadsAsBefore before after) (either : Torn → GivesEitherVersion before after) where
  -- the fault of a store that was not raised
  of_raising : (fault : Fault) → ended ≡ Err fault → RefusesRaising w fault → (fault ≢ Store of_store.Device → Same) → IsOfRaising before after fault
  of_raising Usage is refuses left = absurd refuses
  of_raising Read is refuses left = absurd refuses
  of_raising Write is refuses left = absurd refuses
  of_raising Socket is refuses left = absurd refuses
  of_raising TooManyReads is refuses left = absurd refuses
  of_raising OutOfMemory is refuses left = reads (left (λ e. cc))
  of_raising (Topology fault) is refuses left = absurd refuses
  of_raising (Store of_store.OutOfMemory) is refuses left = (tt, no_memory before, reads (left (λ e. cc)))
  of_raising (Store of_store.Device) is refuses left = either (torn is)
  of_raising (Store of_store.NotEmpty) is refuses left = absurd refuses
  of_raising (Store of_store.HalfSize) is refuses left = absurd refuses
  of_raising (Store of_store.NoMagic) is refuses left = absurd refuses
  of_raising (Store of_store.BadRecord) is refuses left = absurd refuses
  of_raising (Store of_store.BadSnapshot) is refuses left = absurd refuses
  of_raising (Store of_store.BadBatch) is refuses left = absurd refuses
  of_raising (Store (of_store.BadStep batch index)) is refuses left = absurd refuses
  of_raising (Store (of_store.Violated violation)) is refuses left = absurd refuses
  of_raising (Store (of_store.NotQuiet node)) is refuses left = record { world = w; given = given; refuses = refuses; unchanged = reads (left (λ e. cc)) }
  of_raising (Store of_store.Stopped) is refuses left = absurd (stopped is)
  of_raising (Refused refusal) is refuses left = absurd refuses
  of_raising (NotClosed fault) is refuses left = absurd refuses

-- the same, of an answer
pub fault_of : {A : Type 0} {Same Torn : Type 0} (ended : Result A Fault) (before after : Option Present) (w : World) → IfErr ended (RefusesRaising w) → IfErr ended (λ fault. fault ≢ Store of_store.Device → Same)
    → (IsErrOf ended (Store of_store.Device) → Torn) → (IsErrOf ended (Store of_store.Stopped) → ⊥) → IfSome before (λ old. Recovered old.read w) → (Same → ReadsAsBefore before after) → (Torn → GivesEitherVersion before after)
    → IfErr ended (IsOfRaising before after)
fault_of (Ok x) before after w refuses same torn stopped given reads either = tt
fault_of (Err fault) before after w refuses same torn stopped given reads either = of_raising (Err fault) before after w torn stopped given reads either fault refl refuses same

none_is_not : (torn : Option World) → torn ≡ None → is_some torn ≡ true → ⊥
none_is_not None going is = cc
none_is_not (Some w) going is = cc

-- a store that goes on has not stopped
pub going_on : {D : Type 0} (kept : Kept D) → kept.torn ≡ None → has_stopped kept ≡ true → ⊥
going_on kept going is = none_is_not kept.torn going is

-- a disk is put back: if its content then is known, it is the disk's
pub closed : (Q : Option Present → Type 0) (known after : Option Present) → (Q known → Q None) → IfSome after (λ disk. known ≡ Some disk) → Q known → Q after
closed Q known None less is held = less held
closed Q known (Some disk) less is held = subst Q is held

pub unread : (before : Option Present) → ReadsAsBefore before None
unread None = tt
unread (Some disk) = tt

either_unread : (before : Option Present) → GivesEitherVersion before None
either_unread None = tt
either_unread (Some disk) = tt

less_line : (before known : Option Present) (line : List ℕ) → IsMigratedLine before known line → IsMigratedLine before None line
less_line before known line of =
    record { world = of.world; is_raised = record { given = of.is_raised.given; raised = tt; again = λ _. unread before }; counted = of.counted }

less_fault : (before known : Option Present) (fault : Fault) → IsOfRaising before known fault → IsOfRaising before None fault
less_fault before known Usage of = absurd of
less_fault before known Read of = absurd of
less_fault before known Write of = absurd of
less_fault before known Socket of = absurd of
less_fault before known TooManyReads of = absurd of
less_fault before known OutOfMemory of = unread before
less_fault before known (Topology fault) of = absurd of
less_fault before known (Store of_store.OutOfMemory) of = (of.0, of.1, unread before)
less_fault before known (Store of_store.Device) of = either_unread before
less_fault before known (Store of_store.NotEmpty) of = (of.0, of.1, unread before)
less_fault before known (Store of_store.HalfSize) of = (of.0, of.1, unread before)
less_fault before known (Store of_store.NoMagic) of = (of.0, of.1, unread before)
less_fault before known (Store of_store.BadRecord) of = (of.0, of.1, unread before)
less_fault before known (Store of_store.BadSnapshot) of = (of.0, of.1, unread before)
less_fault before known (Store of_store.BadBatch) of = (of.0, of.1, unread before)
less_fault before known (Store (of_store.BadStep batch index)) of = (of.0, of.1, unread before)
less_fault before known (Store (of_store.Violated violation)) of = (of.0, of.1, unread before)
less_fault before known (Store (of_store.NotQuiet node)) of = record { world = of.world; given = of.given; refuses = of.refuses; unchanged = unread before }
less_fault before known (Store of_store.Stopped) of = (of.0, of.1, unread before)
less_fault before known (Refused refusal) of = absurd of
less_fault before known (NotClosed fault) of = absurd of

-- the line, and the fault, of the disk of a name
pub line_named : {A : Type 0} (text : A → List ℕ) (ended : Result A Fault) (before after taken known : Option Present) → taken ≡ before → IfSome after (λ disk. known ≡ Some disk) → IfOk ended (λ line. IsMigratedLine taken known (text line))
    → IfOk ended (λ line. IsMigratedLine before after (text line))
line_named text ended before after taken known h1 h2 h3 = grind (arith, nat_tests, closed, less_line)

pub fault_named : {A : Type 0} (ended : Result A Fault) (before after taken known : Option Present) → taken ≡ before → IfSome after (λ disk. known ≡ Some disk) → IfErr ended (IsOfRaising taken known) → IfErr ended (IsOfRaising before after)
fault_named ended before after taken known h1 h2 h3 = grind (arith, nat_tests, closed, less_fault)

-- the line of a store that was raised is not written
pub unwritten : (before after : Option Present) (line : List ℕ) → IsMigratedLine before after line → (fault : Fault) → IsOfWriting fault → IsOfMigrating before after fault
unwritten before after line of Usage is = absurd is
unwritten before after line of Read is = absurd is
unwritten before after line of Write is = (of.world, of.is_raised)
unwritten before after line of Socket is = absurd is
unwritten before after line of TooManyReads is = absurd is
unwritten before after line of OutOfMemory is = inr (of.world, of.is_raised)
unwritten before after line of (Topology fault) is = absurd is
unwritten before after line of (Store fault) is = absurd is
unwritten before after line of (Refused refusal) is = absurd is
unwritten before after line of (NotClosed fault) is = absurd is

-- the disk of a name was taken and put back
pub raised_named : {A D : Type 0} (model : DiskModel D) (ended : Result A Fault) (before after : Option Present) (taken back : D) → known_of model taken ≡ before →
    IfSome after (λ known. known_of model back ≡ Some known) → Raises model (failures_in_migration ended) taken back →
    MatchResult ended (λ _. RaisesNamed model 0 before after) (EndsRaising model before after)
raised_named model (Ok line) before after taken back was is raises = record { taken = taken; back = back; was = was; is = is; raises = raises }
raised_named model (Err fault) before after taken back was is raises = inr (record { taken = taken; back = back; was = was; is = is; raises = raises })

-- a raising that was carried out, and whose line could not be written, ends with the writer's fault
pub raised_unwritten : {D : Type 0} (model : DiskModel D) (before after : Option Present) → RaisesNamed model 0 before after → (fault : Fault) → IsOfWriting fault →
    EndsRaising model before after fault
raised_unwritten model before after h1 fault h2 = grind (arith, nat_tests)
