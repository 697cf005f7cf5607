-- The end of a server, and the parts of its engine that remain.
use Rattle.std.specs.Borrow.{Bor}
use Rattle.std.specs.Prelude.{◌≡◌, ◌⊎◌, ℕ, ◌≤◌, List, [], ◌∷◌, ◌++◌, All, Bool, true, false, Option, Some, None, length}
use Rattle.atomic_table.specs.Seated.{TableId}
use Rattle.coord_types.specs.declared.steps.Step.{Step}
use Rattle.coord_ledger.specs.declared.ticket.Note.{Note}
use Rattle.coord_ledger.specs.machine.Log.{kinds_of}
use Rattle.coord_engine.specs.Facade.{AtSomeMoment, Basis, Beginning, Closes, HasReadSettled, IsLeftOf, IsNamed, IsOfPacket, IsSince, RefusesClosing, StartsWith, first_settled}
use Rattle.coord_engine.specs.declared.closed.CloseFault.{CloseFault}
use Rattle.coord_engine.specs.declared.closed.Closed.{Closed}
use Rattle.coord_admin.specs.Connections.{Talk, ServedOpen, ServedToClose}
use Rattle.coord_admin.specs.InstanceLimit.{HasKept}
use Rattle.coord_server.specs.EngineDesk.{DeskState, DeskAnswers, DeskKeeps}
use Rattle.coord_server.specs.declared.fault.ServerFault.{ServerFault}
use Rattle.coord_server.specs.declared.fault.ServerFault.TheVariants as fault
use Rattle.coord_server.specs.declared.instance.Instance.{Instance}
use Rattle.coord_server.specs.declared.instance_end.InstanceEnd.{InstanceEnd}
use Rattle.coord_server.specs.declared.instance_end.InstanceEnd.TheVariants as end

-- a desk over this port with no notes, which has read no steps
abbrev pub new_desk : {P : Type 0} → P → DeskState P
new_desk port = record { notes = []; seen = 0; read = []; port = port }

-- the server's own port, whose content contracts do not see
abbrev pub Local : Type 0
Local = Bor (Unit {0})

-- An instance is one history. The desk, the flusher and the workers together noted exactly the steps accepted since the store was
-- opened: each step once, with the kind of its reply, and the steps of each share in order. `workers` are the notes of the
-- flusher and the workers; they note only packets' steps. The store has the world after the settled steps. Everything that the
-- desk has seen as settled is settled.
pub record IsOneHistory {D P : Type 0} (b : Basis D) (desk : DeskState P) (left : Closed D) : Type 0 where
  pub workers : List (List Note)
  pub of_packets : All (All IsOfPacket) workers
  pub same_base : left.base ≡ b.base
  pub named : IsNamed (desk.notes ∷ workers) left.base.count left.trail.items (kinds_of left.base left.trail.items)
  pub closed : AtSomeMoment b (Closes {D = D} left.store left.base left.trail.items left.settled (desk.notes ∷ workers))
  pub seen : desk.seen ≤ left.settled

-- An instance's engine was taken apart in a possible state of its ledger. Nothing is stated about which caller submitted which
-- step.
abbrev pub LeavesLedger : {D : Type 0} → Basis D → Closed D → Type 0
LeavesLedger {D} b left = AtSomeMoment b (IsLeftOf {D = D} left.store left.base left.trail.items left.settled)

-- An engine refused, for this reason, to be closed with all ten shares (the desk's share, the flusher's and those of eight
-- workers). `left` are its parts.
pub record RefusesShares {D P : Type 0} (b : Basis D) (desk : DeskState P) (left : Closed D) (why : CloseFault) : Type 0 where
  pub workers : List (List Note)
  pub of_packets : All (All IsOfPacket) workers
  pub all : length (desk.notes ∷ workers) ≡ 10
  pub so : AtSomeMoment b (λ g. IsLeftOf {D = D} left.store left.base left.trail.items left.settled g × RefusesClosing {D = D} g (desk.notes ∷ workers) desk.seen why)

-- The remaining parts of an instance that ended with this fault, if any. They are one history, unless the instance did not begin
-- or its engine could not be closed.
abbrev pub IsLeftAs : {D P : Type 0} → Basis D → DeskState P → Closed D → Option ServerFault → Type 0
IsLeftAs b desk left (Some fault.NotBegun) = LeavesLedger b left
IsLeftAs b desk left (Some (fault.NotClosed why)) = RefusesShares b desk left why
IsLeftAs b desk left other = IsOneHistory b desk left

-- `all` are the shares in `first`, followed by the shares of the flusher and the workers, whose notes are all of packets.
abbrev pub AddsWorkers : List (List Note) → List (List Note) → Type 0
AddsWorkers first all = (workers : List (List Note)) × (all ≡ first ++ workers) × All (All IsOfPacket) workers

-- the fault that ended the instance's serving, if there was one
abbrev pub end_fault : InstanceEnd → Option ServerFault
end_fault (end.Ended served) = served
end_fault left = None

-- `talked v talks w`: the callers were in the state v, had these talks, and then are in the state w
module _ {D : Type 0} (b : Basis D) {V : Type 0} (talked : V → List Talk → V → Type 0) where
  -- A desk over this port began without notes, and served the callers in an instance of this many steps, until one of them closed
  -- it.
  abbrev pub IsClosed : {P : Type 0} → ℕ → P → V → V → DeskState P → Type 0
  IsClosed most port v w desk = ServedToClose (DeskAnswers b) (DeskKeeps b) most talked v (new_desk port) w desk

  -- A desk over this port began without notes and served the callers, and no caller closed it.
  abbrev pub ServedWhileOpen : {P : Type 0} → ℕ → P → V → V → DeskState P → Type 0
  ServedWhileOpen most port v w desk = ServedOpen (DeskAnswers b) (DeskKeeps b) most talked v (new_desk port) w desk

  -- `failed v w`: the callers were in the state v, and have failed
  module _ (failed : V → V → Type 0) (most : ℕ) where
    -- How the desk over this port served in an instance with this end. The instance rests only once the desk keeps `most` steps.
    -- Otherwise a caller closed it, the callers failed, or nobody was served because memory ran out or the first line was not
    -- printed.
    abbrev pub ServesInstance : {P : Type 0} → P → V → V → DeskState P → InstanceEnd → Type 0
    ServesInstance port v w desk end.Resting = ServedWhileOpen most port v w desk × HasKept (DeskKeeps b) desk most
    ServesInstance port v w desk end.Unfollowed = ⊥
    ServesInstance port v w desk end.Unprinted = talked v [] w × (desk ≡ new_desk port)
    ServesInstance port v w desk (end.Ended None) = IsClosed most port v w desk
    ServesInstance port v w desk (end.Ended (Some fault.OutOfMemory)) = talked v [] w × (desk ≡ new_desk port)
    ServesInstance port v w desk (end.Ended (Some fault.Socket)) = (last : V) × ServedWhileOpen most port v last desk × failed last w
    ServesInstance port v w desk (end.Ended (Some other)) = ⊥

    -- How the desk served in an instance that ended like this, after its engine was taken apart. If memory for the next instance
    -- ran out, this instance rested. If the instance did not begin, nobody was served. If its engine could not be closed, the
    -- desk had served until one of the ends of `ServesInstance`.
    abbrev pub LeavesInstance : {P : Type 0} → P → V → V → DeskState P → InstanceEnd → Type 0
    LeavesInstance port v w desk end.Unfollowed = ServesInstance port v w desk end.Resting
    LeavesInstance port v w desk (end.Ended (Some fault.NotBegun)) = talked v [] w × (desk ≡ new_desk port)
    LeavesInstance port v w desk (end.Ended (Some (fault.NotClosed why))) = (served : InstanceEnd) × ServesInstance port v w desk served
    LeavesInstance port v w desk left = ServesInstance port v w desk left

    -- How the desk served in the last instance of a server that ended with this fault, if any. A stopped store is noticed when an
    -- instance rests, and so is a lack of memory for the next instance. A failure of the first line is noticed before the first
    -- instance serves.
    abbrev pub Serves : {P : Type 0} → P → V → V → DeskState P → Option ServerFault → Type 0
    Serves port v w desk (Some fault.Device) = ServesInstance port v w desk end.Resting
    Serves port v w desk (Some fault.Write) = ServesInstance port v w desk end.Unprinted
    Serves port v w desk (Some fault.OutOfMemory) = ServesInstance port v w desk (end.Ended (Some fault.OutOfMemory)) ⊎ ServesInstance port v w desk end.Resting
    Serves port v w desk served = LeavesInstance port v w desk (end.Ended served)

    -- The threads of an instance have run. The desk served until this end, and `seen` is its seen count. The token has read the
    -- `earlier` steps, and then the steps that the desk's answers follow from. All ten shares were returned: the desk's, the
    -- flusher's and those of eight workers.
    pub record HasRun (history : TableId) (earlier : List Step) (v w : V) (left : InstanceEnd) (shares : List (List Note)) (seen : ℕ) (reader : Beginning) : Type 0 where
      pub port : Local
      pub desk : DeskState Local
      pub served : ServesInstance port v w desk left
      pub saw : desk.seen ≡ seen
      pub read : HasReadSettled history earlier desk.read reader
      pub added : AddsWorkers (desk.notes ∷ []) shares
      pub all : length shares ≡ 10

    -- One instance: the desk served until this end, and the instance's engine was taken apart into these parts. The steps that
    -- the desk's answers follow from are a prefix of the settled steps.
    pub record IsInstance (v : V) (instance : Instance D V) : Type 0 where
      pub port : Local
      pub desk : DeskState Local
      pub served : LeavesInstance port v instance.callers desk instance.left
      pub left : IsLeftAs b desk instance.closed (end_fault instance.left)
      pub returned : StartsWith (first_settled instance.closed.base instance.closed.trail.items instance.closed.settled) desk.read

-- An engine was taken apart into the parts of an instance. If the engine could be closed with these shares, they noted all
-- accepted steps, and the instance ends as its serving did. Otherwise its end is that the engine refused the shares.
abbrev pub LeavesShares : {D V : Type 0} → Basis D → List (List Note) → ℕ → InstanceEnd → Instance D V → Type 0
LeavesShares {D} {V} b shares seen served instance =
    ((instance.left ≡ served) × IsSince b.base b.before shares instance.closed.base instance.closed.trail.items
    × AtSomeMoment b (Closes {D = D} instance.closed.store instance.closed.base instance.closed.trail.items instance.closed.settled shares) × (seen ≤ instance.closed.settled))
    ⊎ ((why : CloseFault) × (instance.left ≡ end.Ended (Some (fault.NotClosed why)))
    × AtSomeMoment b (λ g. IsLeftOf {D = D} instance.closed.store instance.closed.base instance.closed.trail.items instance.closed.settled g × RefusesClosing {D = D} g shares seen why))

-- The ends of an instance that could not open the output: the first line was not printed, or the callers have failed. `failed v
-- w`: the callers were in the state v, and have failed
abbrev pub EndsUnopened : {V : Type 0} → (V → V → Type 0) → V → InstanceEnd → Type 0
EndsUnopened failed v end.Unprinted = Unit {0}
EndsUnopened failed v (end.Ended (Some fault.Socket)) = failed v v
EndsUnopened failed v other = ⊥

-- the fault that a server returns: first a stopped store, then the fault that ended the serving, then a
-- failed output
abbrev pub fault_at_end : Bool → Option ServerFault → Bool → Option ServerFault
fault_at_end true served is_amiss = Some fault.Device
fault_at_end false (Some why) is_amiss = Some why
fault_at_end false None true = Some fault.Write
fault_at_end false None false = None
