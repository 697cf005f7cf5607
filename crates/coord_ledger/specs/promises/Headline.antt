-- The headline: the promise for a run of events, wherever the run is stopped.
--
-- Stop a run at any point: before, within or after any write. Whatever the disk then holds, `open` gives the
-- world after a prefix of the accepted steps, none skipped and none in part. That prefix includes every step
-- whose reply, packet or signal had been released, and every link predicate holds in that world.
--
-- A run is a list of events with their answers. `Survives` states the promise for one image of the disk,
-- `CrashPrefix` for all images of a disk between two events, and `EachMoment` for each moment of a run,
-- including moments inside an event. `EachMoment` states the effect of the run on its disk event by event.
-- Each event starts from the disk that the previous event left. At each moment, a commit leaves only images of
-- the world before it or the world after it. A crash takes one of the disk's images, and the opening after the
-- crash leaves only images of the image taken. No other event touches the disk. So at every moment inside
-- every event of every run, whatever the disk may hold survives.
--
-- `Completed` has the promises above and the other promises for a run: its answers are the event machine's,
-- its releases and collected replies belong to kept steps, and the remaining ledger agrees with the machine.
-- `Broken.antt` has the promises for a run that ends early: its moments, its answers and releases up to the
-- end, the disk that is returned, and the reason.
--
-- `model` has the ghost members of the disk's type, which define what its disks may hold. `crashes` defines
-- which disks a crash may leave.
use Rattle.std.specs.Prelude.{◌≡◌, ◌⊎◌, ℕ, ◌≤◌, ◌==◌, ◌&&◌, Bool, true, false, List, [], ◌∷◌, map, take, count_by, Some, None}
use Rattle.std.specs.List.{AllByRecursion}
use Rattle.coord_disk.specs.Model.Present.{Present, IsImage}
use Rattle.coord_disk.specs.Model.DiskModel.{DiskModel}
use Rattle.coord_types.specs.Table.{get}
use Rattle.coord_types.specs.declared.steps.Reply.{Reply}
use Rattle.coord_types.specs.declared.steps.Session.{Session}
use Rattle.coord_types.specs.declared.steps.Step.{Step}
use Rattle.coord_store.specs.Facade.{Recovered}
use Rattle.coord_store.specs.declared.faults.CommitFault.TheVariants as fault
use Rattle.coord_world.specs.laws.Release.{IsReleased}
use Rattle.coord_world.specs.laws.Waves.{is_signal_of}
use Rattle.coord_world.specs.Facade.{Legal, World, outs}
use Rattle.coord_ledger.specs.declared.events.Answer.{Answer}
use Rattle.coord_ledger.specs.declared.events.Answer.TheVariants.{Committed, Failed}
use Rattle.coord_ledger.specs.declared.events.Event.{Event}
use Rattle.coord_ledger.specs.declared.events.Event.TheVariants.{Commit, Crash}
use Rattle.coord_ledger.specs.declared.release.Release.{Release}
use Rattle.coord_ledger.specs.ledger.State.{LedgerState}
use Rattle.coord_ledger.specs.machine.After.{after, finished, releases_of}
use Rattle.coord_ledger.specs.machine.Answers.{IsOneOf, kept}
use Rattle.coord_ledger.specs.machine.Log.{Log, accepted_count, rebased, settled_steps, world_after}
use Rattle.coord_ledger.specs.machine.Machine.{Machine}
use Rattle.coord_ledger.specs.machine.Runs.{Answered, run}
use Rattle.coord_ledger.specs.promises.Moments.{LeavesWithin, touches_disk}
use Rattle.coord_ledger.specs.promises.Parts.{IsPartOf, released_first}

-- ---- at any stopping point

-- A resent packet was first sent by one of these steps, or is in the base's resend list.
abbrev pub IsAgainOf : World → List Step → Release → Type 0
IsAgainOf base steps r = r.step ≡ 0 → IsReleased base steps r.output

-- Every link predicate holds in the world after the first n steps of the trail. All these n steps were
-- accepted. They include each step with a released or collected output, and each step that first sent a resent
-- packet.
pub record IsSafe (s : Machine) (n : ℕ) : Type 0 where
  pub legal : Legal (world_after s.log n)
  pub released : AllByRecursion (λ r. r.step ≤ (world_after s.log n).count) s.released
  pub again : AllByRecursion (IsAgainOf s.log.base (take n s.log.trail)) s.released
  pub replied : AllByRecursion (λ r. r.step ≤ (world_after s.log n).count) s.replied
  pub accepted : (world_after s.log n).count ≤ accepted_count s.log

-- These bytes give the world after the first n steps of the trail, for an n that a crash may keep.
pub record Survives (s : Machine) (bytes : List ℕ) : Type 0 where
  pub steps : ℕ
  pub allowed : IsOneOf steps (kept s)
  pub recovered : Recovered bytes (world_after s.log steps)
  pub safe : IsSafe s steps

-- Crash prefix: if the disk keeps the model, whatever it may hold after a crash survives.
abbrev pub CrashPrefix : Machine → Bool → Present → Type 0
CrashPrefix s keeps_model present = keeps_model ≡ true → (image : List ℕ) → IsImage present image → Survives s image

-- ---- at each moment

-- The machine that a crash inside an event finds. A crash inside a commit finds the flight's steps in doubt,
-- as after a failure of the device.
abbrev pub found_by_crash : Machine → Event → Answer → Machine
found_by_crash s Commit Committed = after s Commit (Failed fault.Device)
found_by_crash s Commit (Failed fault.Device) = after s Commit (Failed fault.Device)
found_by_crash s event answer = s

-- The effect of an event on the disk. An event that does not touch the disk leaves it unchanged. A crash at
-- any moment of the event, which then finds the machine `found`, leaves only what survives.
pub record Touches {D : Type 0} (model : DiskModel D) (crashes : D → D → Type 0) (keeps_model : Bool) (found : Machine) (touches : Bool) (e : Event) (old new : D) : Type 0 where
  pub untouched : touches ≡ false → new ≡ old
  pub inside : keeps_model ≡ true → LeavesWithin model crashes e (Survives found) old new

-- A run, moment by moment, from its first disk to its last disk: whatever a crash between two events or inside
-- an event may leave survives.
abbrev pub EachMoment : {D : Type 0} → DiskModel D → (D → D → Type 0) → Bool → Machine → List Event → List Answer → D → D → Type 0
EachMoment {D} model crashes keeps_model s [] [] first last = (last ≡ first) × CrashPrefix s keeps_model (model.present last)
EachMoment {D} model crashes keeps_model s [] (a ∷ given) first last = ⊥
EachMoment {D} model crashes keeps_model s (e ∷ es) [] first last = ⊥
EachMoment {D} model crashes keeps_model s (e ∷ es) (a ∷ given) first last =
    CrashPrefix s keeps_model (model.present first)
    × ((next : D) × (Touches model crashes keeps_model (found_by_crash s e a) (touches_disk e a) e first next × EachMoment model crashes keeps_model (after s e a) es given next last))

-- ---- releases

-- The releases of steps are some of the outputs of the settled steps, in their order and each at most once.
abbrev pub ReleasedOnce : Machine → Type 0
ReleasedOnce s = IsPartOf (released_first s.released) (releases_of (outs s.log.base (settled_steps s.log)))

-- Each resent packet was first sent by a settled step, or is in the base's resend list.
abbrev pub IsTrulyAgain : Log → Release → Type 0
IsTrulyAgain log = IsAgainOf log.base (settled_steps log)

abbrev pub AgainTruly : Machine → Type 0
AgainTruly s = AllByRecursion (IsTrulyAgain s.log) s.released

-- whether a release is a signal of node u by step n
abbrev pub is_signal : ℕ → ℕ → Release → Bool
is_signal n u r = (r.step == n) && is_signal_of u r.output

-- No step's signal was released twice.
abbrev pub SignalledOnce : Machine → Type 0
SignalledOnce s = (n u : ℕ) → 1 ≤ n → count_by (is_signal n u) s.released ≤ 1

-- The reply is the reply to one of these steps, or a reply that the world before these steps keeps for a
-- client's last order.
abbrev pub IsReplyOf : World → List Step → Reply → Type 0
IsReplyOf w steps reply = IsOneOf reply (map (λ q. q.reply) (outs w steps)) ⊎ ((client : ℕ) × ((last : Session) × ((get w.sessions client ≡ Some last) × (last.reply ≡ reply))))

-- Each collected reply is the reply to a settled step, or a reply that the base keeps for a client's last
-- order.
abbrev pub RepliedTruly : Machine → Type 0
RepliedTruly s = AllByRecursion (IsReplyOf s.log.base (settled_steps s.log)) s.replied

-- ---- runs

abbrev pub is_crash : Event → Bool
is_crash Crash = true
is_crash event = false

-- `Promise` holds for a run on a disk that keeps the model, and for a run without crashes on any disk.
abbrev pub Promised : Bool → List Event → Type 0 → Type 0
Promised keeps_model events Promise = (keeps_model ≡ true) ⊎ AllByRecursion (λ e. is_crash e ≡ false) events → Promise

-- the machine after its flight, if one was out, has returned
abbrev pub ended : Machine → Machine
ended s = finished s s.flight

-- A ledger that has its store agrees with the machine, if the machine is seen from the world after some of the
-- settled steps.
pub record IsLeft {D : Type 0} (s : Machine) (l : LedgerState D) : Type 0 where
  pub by : ℕ
  pub within : by ≤ s.log.settled
  pub log : l.log ≡ rebased s.log by
  pub home : l.out ≡ None

-- A completed run, which began with a ledger that has its store and led the disk from `first` to `last`. The
-- answers are the machine's, and the releases are exactly these. The headline holds wherever the run is
-- stopped, after an event or at any moment inside an event. The ledger `left` remains. `run_events` ensures
-- this when it returns a trace and a ledger.
pub record Completed {D : Type 0} (model : DiskModel D) (crashes : D → D → Type 0) (start : Machine) (events : List Event) (given : List Answer) (released : List Release) (left : LedgerState D) (keeps_model : Bool) (first last : D) : Type 0 where
  pub answered : Answered start events given
  pub released_is : released ≡ (run start events given).released
  pub prefix : CrashPrefix (run start events given) keeps_model (model.present last)
  pub moments : EachMoment model crashes keeps_model start events given first last
  pub once : ReleasedOnce (run start events given)
  pub again : AgainTruly (run start events given)
  pub signalled : SignalledOnce (run start events given)
  pub replied : RepliedTruly (run start events given)
  pub ledger : IsLeft (ended (run start events given)) left
