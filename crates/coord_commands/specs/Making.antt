-- The effect of `init`.
use Rattle.std.specs.Prelude.{◌≡◌, ◌⊎◌, ℕ, ◌<◌, List, length, take, Option, IfSome, Ok, Err}
use Rattle.coord_config.specs.Topology.{Content}
use Rattle.coord_config.specs.declared.fault.ConfigFault.{ConfigFault}
use Rattle.coord_config.specs.declared.fault.ConfigFault.TheVariants as of_topology
use Rattle.coord_store.specs.Facade.{HasHalves, IsCreateFault, Recovered}
use Rattle.coord_store.specs.declared.faults.StoreFault.{StoreFault}
use Rattle.coord_store.specs.declared.faults.StoreFault.TheVariants as of_store
use Rattle.coord_store.specs.declared.faults.StoreFault.TheVariants.{NotEmpty, HalfSize}
use Rattle.coord_world.specs.Facade.{World, fold, no_world}
use Rattle.coord_commands.specs.declared.topology.TheConstants.{MOST_BYTES}
use Rattle.coord_commands.specs.Founding.{RefusesToBegin, orders}
use Rattle.coord_commands.specs.Printed.{created_line}
use Rattle.coord_commands.specs.Topology.{said_by}
use Rattle.coord_commands.specs.declared.fault.Fault.{Fault}
use Rattle.coord_commands.specs.declared.fault.Fault.TheVariants.{Read, Write, OutOfMemory, Topology, Store, Refused}

-- the world after the orders that build a topology
abbrev pub begun : Content → World
begun topology = fold (no_world 2) (orders topology)

-- These are the bytes of a store with this world, and with halves of the topology's size.
pub record IsStore (topology : Content) (w : World) (bytes : List ℕ) : Type 0 where
  pub gives : Recovered bytes w
  pub halves : HasHalves topology.half bytes

-- A store with this world was created for a topology. `before` and `after` are the bytes of its disk, if they
-- are known.
pub record IsFounded (topology : Content) (w : World) (before after : Option (List ℕ)) : Type 0 where
  pub empty : IfSome before (λ bytes. length bytes ≡ 0)
  pub made : IfSome after (IsStore topology w)

-- The topology file contains this topology, if its bytes are known. The command reads only one byte more than
-- the longest valid file has.
abbrev pub Says : Option (List ℕ) → Content → Type 0
Says file topology = IfSome file (λ bytes. said_by (take MOST_BYTES bytes) ≡ Ok topology)

-- This topology file is valid, its store was created on the disk, and this is the printed line for that
-- store.
pub record IsCreatedLine (file before after : Option (List ℕ)) (line : List ℕ) : Type 0 where
  pub topology : Content
  pub said : Says file topology
  pub is_made : IsFounded topology (begun topology) before after
  pub counted : line ≡ created_line (begun topology).count

-- If the bytes are known, they are unchanged.
abbrev pub StaysKnown : Option (List ℕ) → Option (List ℕ) → Type 0
StaysKnown before after = IfSome before (λ old. IfSome after (λ new. new ≡ old))

-- A disk that was not empty is unchanged.
abbrev pub KeepsTaken : Option (List ℕ) → Option (List ℕ) → Type 0
KeepsTaken before after = IfSome before (λ old. 0 < length old → IfSome after (λ new. new ≡ old))

-- The disk after memory ran out: unchanged if it was not empty; otherwise empty, or with the topology's store
-- without any step.
pub record LeavesWithoutMemory (topology : Content) (before after : Option (List ℕ)) : Type 0 where
  pub taken : KeepsTaken before after
  pub empty : IfSome before (λ old. length old ≡ 0 → IfSome after (λ new. (length new ≡ 0) ⊎ IsStore topology (no_world 2) new))

-- Creating the topology's store on the disk returned this fault of the store. If the disk was not empty, it
-- is unchanged.
abbrev pub RefusesDisk : Option (List ℕ) → Option (List ℕ) → Content → StoreFault → Type 0
RefusesDisk before after topology NotEmpty = IfSome before (λ bytes. 0 < length bytes) × StaysKnown before after
RefusesDisk before after topology HalfSize = StaysKnown before after
RefusesDisk before after topology of_store.OutOfMemory = LeavesWithoutMemory topology before after
RefusesDisk before after topology fault = IsCreateFault fault

-- The topology file was refused for this reason: its bytes, if they are known, contain no topology, or memory
-- to read them ran out.
abbrev pub RefusesFile : Option (List ℕ) → ConfigFault → Type 0
RefusesFile file of_topology.OutOfMemory = Unit {0}
RefusesFile file reason = IfSome file (λ bytes. said_by (take MOST_BYTES bytes) ≡ Err reason)

-- The store of a topology is not created because of this fault. If one of its orders is refused, the disk has
-- a store without any step.
abbrev pub RefusesStore : Option (List ℕ) → Option (List ℕ) → Content → Fault → Type 0
RefusesStore before after topology OutOfMemory = LeavesWithoutMemory topology before after
RefusesStore before after topology (Store fault) = RefusesDisk before after topology fault
RefusesStore before after topology (Refused refusal) = RefusesToBegin (orders topology) refusal × IsFounded topology (no_world 2) before after
RefusesStore before after topology fault = ⊥

-- Memory ran out after the topology file was read: the store was not created, or its line was not printed.
abbrev pub LacksMemoryToMake : Option (List ℕ) → Option (List ℕ) → Option (List ℕ) → Type 0
LacksMemoryToMake file before after = (topology : Content) × Says file topology × (LeavesWithoutMemory topology before after ⊎ IsFounded topology (begun topology) before after)

-- The faults of `init`, except the faults of its arguments. The topology file is checked first, so if the
-- store is not created for another reason, the file contains a topology. If the line can't be written, the
-- store was created.
abbrev pub IsOfMaking : Option (List ℕ) → Option (List ℕ) → Option (List ℕ) → Fault → Type 0
IsOfMaking file before after Read = StaysKnown before after
IsOfMaking file before after Write = (topology : Content) × Says file topology × IsFounded topology (begun topology) before after
IsOfMaking file before after OutOfMemory = StaysKnown before after ⊎ LacksMemoryToMake file before after
IsOfMaking file before after (Topology reason) = RefusesFile file reason × StaysKnown before after
IsOfMaking file before after (Store fault) = (topology : Content) × Says file topology × RefusesStore before after topology (Store fault)
IsOfMaking file before after (Refused refusal) = (topology : Content) × Says file topology × RefusesStore before after topology (Refused refusal)
IsOfMaking file before after fault = ⊥

-- the faults of the topology file, which is read and checked before the disk is opened
abbrev pub IsOfFile : Fault → Type 0
IsOfFile Read = Unit {0}
IsOfFile (Topology fault) = Unit {0}
IsOfFile fault = ⊥
