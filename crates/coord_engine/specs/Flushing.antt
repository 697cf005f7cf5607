-- The work of a flusher: it flushes and passes each flight's releases to its port, until nothing more will be
-- flushed or the device fails.
use Rattle.std.specs.Prelude.{◌≡◌, ◌≢◌, ◌⊎◌, ℕ, zero, suc, Bool, true, false, List, Option, Some, None, Result, Ok, Err}
use Rattle.coord_types.specs.declared.packets.Packet.{Packet}
use Rattle.coord_store.specs.declared.faults.CommitFault.{CommitFault}
use Rattle.coord_store.specs.declared.faults.CommitFault.TheVariants.{OutOfMemory}
use Rattle.coord_ledger.specs.declared.release.Release.{Release}
use Rattle.coord_engine.specs.Flights.{AnswersFlush, RefusesFlush}
use Rattle.coord_engine.specs.Pacing.{is_idle, is_over}
use Rattle.coord_engine.specs.Port.{AreHanded, deliveries_of}
use Rattle.coord_engine.specs.State.{Basis}
use Rattle.coord_engine.specs.Threads.{AtSomeMoment}
use Rattle.coord_engine.specs.declared.flushing.TheConstants.{CALLERS_PART, TIMEOUT, REST}
use Rattle.coord_engine.specs.declared.guarded.pacing.TheConstants.{MOST_AWAITED}

-- The usual waiting times (docs/DECISIONS.md). A flight waits 5 milliseconds for packets. It waits for at most
-- 32 callers, and for at most a sixteenth of the last flight's time. A flusher pauses 1 millisecond after it
-- ran out of memory.
pub record TimesAreUsual : Type 0 where
  pub packets : TIMEOUT ≡ 5
  pub callers : CALLERS_PART ≡ 16
  pub awaited : MOST_AWAITED ≡ 32
  pub rest : REST ≡ 1

-- whether a flush ran out of memory; if so, the flusher pauses before the next flush
abbrev pub finds_no_memory : Result (Option (List Release)) CommitFault → Bool
finds_no_memory (Err OutOfMemory) = true
finds_no_memory answer = false

-- `b` is the basis of an engine. `carried`, `signalled` and `handed_on` give the possible states of the port
-- that gets the engine's releases.
module _ {D P : Type 0} (b : Basis D) (carried : P → ℕ → Packet → Bool → P → Type 0) (signalled : P → ℕ → ℕ → ℕ → Bool → P → Type 0) (handed_on : P → ℕ → P → Type 0) where
  -- The effect of a flush on the port. The port gets one request for each release, in order, and then hands on
  -- the packets that it has gathered. If no flight left or memory ran out, the port gets no request. After any
  -- other fault the flusher makes no further flush.
  abbrev pub FollowsFlush : P → Result (Option (List Release)) CommitFault → P → Type 0
  FollowsFlush port (Ok None) later = later ≡ port
  FollowsFlush port (Ok (Some released)) later = AreHanded carried signalled handed_on port (deliveries_of released) later
  FollowsFlush port (Err OutOfMemory) later = later ≡ port
  FollowsFlush port (Err fault) later = ⊥

  -- The flusher flushed this many times, each time at a moment when something could be flushed. Each flush had
  -- its effect on the port.
  abbrev pub Flushed : ℕ → P → P → Type 0
  Flushed zero port later = later ≡ port
  Flushed (suc n) port later =
      (next : P) × Flushed n port next
      × (AtSomeMoment b (λ g. is_idle g ≡ false) × ((answer : Result (Option (List Release)) CommitFault) × AnswersFlush b answer × FollowsFlush next answer later))

  -- The flusher flushed some number of times. Afterwards nothing more will be flushed, or one more flush has
  -- failed for good.
  abbrev pub HasFlushed : P → P → Type 0
  HasFlushed port later =
      (n : ℕ) × Flushed n port later
      × (AtSomeMoment b (λ g. is_over g ≡ true) ⊎ ((fault : CommitFault) × (fault ≢ OutOfMemory) × RefusesFlush b fault))
