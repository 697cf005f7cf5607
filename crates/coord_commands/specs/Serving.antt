-- The end of `serve` with this argument as its address, for a disk whose content before and after may be
-- known.
use Rattle.std.specs.Prelude.{◌≡◌, ◌⊎◌, ℕ, ◌+◌, true, List, Option, Some, None, IfSome, Result, Ok, Err}
use Rattle.std.specs.Io.KnownBytes.{Keeps}
use Rattle.std.specs.Net.Grammar.{IsSocketV4Text}
use Rattle.std.specs.declared.net.socket_addr.SocketAddrV4.{SocketAddrV4}
use Rattle.coord_disk.specs.Model.DiskModel.{DiskModel}
use Rattle.coord_disk.specs.Model.Moments.{AddsNothing}
use Rattle.coord_disk.specs.Model.Present.{Present}
use Rattle.coord_lines.specs.Written.{WritesFirstPart}
use Rattle.coord_engine.specs.Released.{GivesSignal}
use Rattle.coord_engine.specs.declared.closed.Closed.{Closed}
use Rattle.coord_admin.specs.declared.timeouts.Timeouts.{Timeouts}
use Rattle.coord_server.specs.Ending.{fault_at_end}
use Rattle.coord_server.specs.Printed.{is_amiss, new_printer}
use Rattle.coord_server.specs.ServerRun.{HasServedUsual}
use Rattle.coord_server.specs.declared.fault.ServerFault.{ServerFault}
use Rattle.coord_server.specs.declared.server_end.ServerEnd.{ServerEnd}
use Rattle.coord_store.specs.Facade.{Kept, Recovered}
use Rattle.coord_types.specs.declared.steps.Step.{Step}
use Rattle.coord_store.specs.Kept.{has_stopped}
use Rattle.coord_store.specs.Refused.{failed_in}
use Rattle.coord_store.specs.declared.faults.StoreFault.{StoreFault}
use Rattle.coord_store.specs.declared.faults.StoreFault.TheVariants.{Device}
use Rattle.coord_world.specs.protocol.NumberedWorld.{World}
use Rattle.coord_commands.specs.Faults.{fault_line, fault_of_server, fault_status}
use Rattle.coord_commands.specs.Folders.{known_of, reads}
use Rattle.coord_commands.specs.Inspection.{IsOfOpening}
use Rattle.coord_commands.specs.Migrating.{ReadsAsBefore}
use Rattle.coord_commands.specs.declared.fault.Fault.{Fault}
use Rattle.coord_commands.specs.declared.fault.Fault.TheVariants.{Usage, Socket, Write, OutOfMemory, Store, NotClosed}

-- These bytes give a world.
abbrev pub GivesWorld : Option (List ℕ) → Type 0
GivesWorld bytes = IfSome bytes (λ known. (w : World) × Recovered known w)

-- The argument is an address.
abbrev pub IsAddress : List ℕ → Type 0
IsAddress argument = (address : SocketAddrV4) × IsSocketV4Text argument address

-- The faults of `serve` at an address, as far as the bytes of the disk determine them. The disk is opened
-- first and then the socket is bound, so a fault of the socket or of the serving implies that the store was
-- opened.
abbrev pub IsOfServing : Option (List ℕ) → Fault → Type 0
IsOfServing bytes OutOfMemory = GivesWorld bytes
IsOfServing bytes (Store fault) = IsOfOpening bytes (Store fault)
IsOfServing bytes Socket = GivesWorld bytes
IsOfServing bytes Write = GivesWorld bytes
IsOfServing bytes (NotClosed fault) = GivesWorld bytes
IsOfServing bytes fault = ⊥

-- the fault that this server reports, if there is one
abbrev pub fault_of_end : {D V W : Type 0} → ServerEnd D V W → Option ServerFault
fault_of_end ended = fault_at_end (has_stopped ended.closed.store) ended.served (is_amiss ended.printer ended.closed.settled)

-- A server ran over this store, with the usual timeouts, and printed to an output with this known content
-- before and after. `gives` defines the signals that a list of steps sends, by step, node and epoch.
abbrev pub RunsWithOutput : {D : Type 0} → DiskModel D → (List Step → ℕ → ℕ → ℕ → Type 0) → Kept D → Option (List ℕ) → Option (List ℕ) → ServerEnd D Timeouts (Option (List ℕ)) → Type 0
RunsWithOutput model gives store old new ended = HasServedUsual model (λ known. known) gives store (new_printer old store.world.count) ended × (ended.printer.output ≡ new)

-- the result of this server: the remaining parts, together with the fault if there is one
abbrev pub ReportedAtEnd : {D V W : Type 0} → ServerEnd D V W → Result (Closed D) (ServerFault × Closed D) → Type 0
ReportedAtEnd ended (Ok closed) = (closed ≡ ended.closed) × (fault_of_end ended ≡ None)
ReportedAtEnd ended (Err answered) = (answered.1 ≡ ended.closed) × (fault_of_end ended ≡ Some answered.0)

-- A server ran, and returned this result.
pub record ServedWithOutput {D : Type 0} (model : DiskModel D) (gives : List Step → ℕ → ℕ → ℕ → Type 0) (store : Kept D) (old new : Option (List ℕ)) (answered : Result (Closed D) (ServerFault × Closed D)) : Type 0 where
  pub ended : ServerEnd D Timeouts (Option (List ℕ))
  pub run : RunsWithOutput model gives store old new ended
  pub reports : ReportedAtEnd ended answered

-- `model`: the model of a folder's disks
module _ {D : Type 0} (model : DiskModel D) where
  -- The named disk was taken and put back, and its device failed this many times in between. If the device
  -- never failed, the disk is unchanged.
  pub record IsPutBack (failed : ℕ) (before after : Option Present) : Type 0 where
    pub taken : D
    pub back : D
    pub was : known_of model taken ≡ before
    pub is : IfSome after (λ known. known_of model back ≡ Some known)
    pub failures : model.failures back ≡ model.failures taken + failed
    pub reads : failed ≡ 0 → ReadsAsBefore before after

  -- No store was opened: the disk was unavailable, or its store was refused and the disk put back.
  pub record IsNotOpened (before after : Option Present) (answered : Fault) : Type 0 where
    pub fault : StoreFault
    pub named : answered ≡ Store fault
    pub why : ((fault ≡ Device) × (after ≡ before)) ⊎ (IsOfOpening (reads before) (Store fault) × IsPutBack (failed_in fault) before after)

  -- The named disk was taken, and a store was opened on it. The store has the world that the disk's bytes
  -- give, and the disk is unchanged.
  pub record IsOpenedStore (before : Option Present) (store : Kept D) : Type 0 where
    pub taken : D
    pub was : known_of model taken ≡ before
    pub world : IfSome (reads before) (λ known. Recovered known store.world)
    pub failures : model.failures store.disk ≡ model.failures taken
    pub same_model : model.keeps_model store.disk ≡ model.keeps_model taken
    pub any_moment : AddsNothing model taken store.disk
    pub same : model.keeps_model taken ≡ true → (model.present store.disk).read ≡ (model.present taken).read

  -- No socket could be bound: the store was opened, and the disk put back.
  abbrev pub IsNotBound : Option Present → Option Present → Fault → Type 0
  IsNotBound before after answered = (answered ≡ Socket) × GivesWorld (reads before) × IsPutBack 0 before after

  -- The store was opened, a server ran over it, and the disk was put back as the server left it.
  pub record IsServedDisk (before after : Option Present) (old new : Option (List ℕ)) : Type 0 where
    pub store : Kept D
    pub opened : IsOpenedStore before store
    pub ended : ServerEnd D Timeouts (Option (List ℕ))
    pub run : RunsWithOutput model (GivesSignal store.world) store old new ended
    pub put : IfSome after (λ known. known_of model ended.closed.store.disk ≡ Some known)

  -- Memory to begin a server ran out: the store was opened, nobody was served, and the disk was put back.
  abbrev pub IsNotBegun : Option Present → Option Present → Fault → Type 0
  IsNotBegun before after answered = (answered ≡ OutOfMemory) × GivesWorld (reads before) × IsPutBack 0 before after

  -- A server over the disk ended with this fault.
  abbrev pub HasEnded : Option Present → Option Present → Option (List ℕ) → Option (List ℕ) → Fault → Type 0
  HasEnded before after old new answered = (is : IsServedDisk before after old new) × (fault : ServerFault) × (fault_of_end is.ended ≡ Some fault) × (answered ≡ fault_of_server fault)

  -- How `serve` at an address ends with a fault, and what it has printed by then. Nothing is printed before
  -- a server begins, which requires an open store and a bound socket.
  abbrev pub EndsServing : Option Present → Option Present → Option (List ℕ) → Option (List ℕ) → Fault → Type 0
  EndsServing before after old new answered =
      ((IsNotOpened before after answered ⊎ (IsNotBound before after answered ⊎ IsNotBegun before after answered)) × Keeps old new) ⊎ HasEnded before after old new answered

-- The store on a disk was served without a fault until a line closed it. The bytes that are put back give
-- the world that the server left.
abbrev pub ServedWhole : {D : Type 0} → DiskModel D → Option Present → Option Present → Option (List ℕ) → Option (List ℕ) → Type 0
ServedWhole model before after old new = (is : IsServedDisk model before after old new) × (fault_of_end is.ended ≡ None) × IfSome (reads after) (λ known. Recovered known is.ended.closed.store.world)

-- The command ended without a fault: the store was served until a line closed it, and the disk was put back.
pub record ServesToEnd (argument : List ℕ) (bytes after : Option (List ℕ)) (status : ℕ) (old new : Option (List ℕ)) : Type 0 where
  pub number : status ≡ 0
  pub address : IsAddress argument
  pub opened : GivesWorld bytes
  pub closed : GivesWorld after
  pub silent : Keeps old new

-- `of`: the faults of `serve` once the argument is known to be an address
module _ (of : Fault → Type 0) where
  -- The argument is checked first. If it is no address, the fault is `Usage`; otherwise the fault satisfies
  -- `of`.
  abbrev pub IsOfServingAt : List ℕ → Fault → Type 0
  IsOfServingAt argument answered = ((answered ≡ Usage) × ¬ IsAddress argument) ⊎ (IsAddress argument × of answered)

  -- The command has ended with a fault.
  pub record IsNotServed (argument : List ℕ) (status : ℕ) (old new : Option (List ℕ)) : Type 0 where
    pub fault : Fault
    pub possible : IsOfServingAt argument fault
    pub number : status ≡ fault_status fault
    pub answered : WritesFirstPart old new (fault_line fault)

  -- The end of `serve` with this argument, with its exit status, its output and standard error.
  abbrev pub ServesAt : List ℕ → Option (List ℕ) → Option (List ℕ) → ℕ → Option (List ℕ) → Option (List ℕ) → Type 0
  ServesAt argument bytes after status old new = ServesToEnd argument bytes after status old new ⊎ IsNotServed argument status old new
