-- A run goes on to follow the machine, whatever its driver answers: the log and the flight by the driver, the lists by what each answer adds.
use Rattle.std.proofs.Common.{◌≡◌, ℕ, ◌+◌, ◌-◌, arith, [], ◌∷◌, ◌++◌, take, List, Vec, Global, Option, Some, None, Ok, Err, append-nil, refl, sym, ap, ◌∙◌, subst, Result}
use Rattle.std.specs.Option.{option_map}
use Rattle.coord_world.specs.Facade.{outs}
use Rattle.coord_ledger.specs.Facade.{Answer, Begin, Begun, Claim, Commit, Committed, Crash, DriverState, Event, Failed, Finish, Finished, FlightOut, Follows, FollowsTo, Fresh, Good, HandedTo, HoldsTickets, IsConsistent, IsOneOf, LedgerState, Log, Machine, Mark, New, Opened, Refusal, Refused, Release, Repeat, Reply, Run, Simulates, Step, Submit, Torn, Verdict, accepted_count, after, after_finish, after_submit, answers, claimed, finished, flight_out, log_back, machine_of, releases_of, reply_of, settling_releases, verdict, with_accepted}
use Rattle.coord_ledger.specs.declared.events.Answer.TheVariants as answer
use Rattle.coord_ledger.specs.declared.handed.Handed.TheVariants.{Accepted, Repeated}
use Rattle.coord_store.specs.declared.faults.CommitFault.TheVariants as fault
use Rattle.coord_ledger.proofs.follows.Follows.{flight_is, pending_is, settled_is, verdict_is}
use Rattle.coord_ledger.proofs.follows.Granted.{granted_back, granted_later, granted_new, granted_repeat, holds_later, holds_push}
use Rattle.coord_ledger.proofs.machine.ConsistentSteps.{reply_is}
use Rattle.coord_ledger.proofs.Simulates.{represents_allowed, represents_to}

-- the holder's lists beside a driver with this log are the machine's
abbrev Keeps : Log → List (Option Claim) → ℕ → List Release → Machine → Type 0
Keeps log claims seen released t = HoldsTickets log claims t.tickets × ((seen ≡ t.seen) × (released ≡ t.released))

module _ {D : Type 0} (h : Run D) (s : Machine) (is : IsConsistent s) (follows : Follows h s) where
  abbrev d : DriverState D
  d = h.driver

  follows_by : (new : Run D) (e : Event) (a : Answer) → Simulates d e a new.driver → Keeps new.driver.ledger.log new.tickets.items new.seen new.released.items (after s e a) → FollowsTo s e a new
  follows_by new e a simulates keeps = record {
    allowed = represents_allowed d new.driver s is follows.represents e a simulates;
    follows = record { represents = represents_to d new.driver s is follows.represents e a simulates; tickets = keeps.0; seen = keeps.1.0; released = keeps.1.1 };
  }

  -- if the log stays
  same : (log : Log) → log ≡ d.ledger.log → Keeps log h.tickets.items h.seen h.released.items s
  same log now = (rw now follows.tickets, (follows.seen, follows.released))

  -- ---- a flight goes out, or none does

  pub follows_begun : (new : DriverState D) (a : Answer) → Simulates d Begin a new → FollowsTo s Begin a (record h { driver = new })
  follows_begun new a simulates = follows_by (record h { driver = new }) Begin a simulates (by_answer a simulates)
    where
      by_answer : (a : Answer) → Simulates d Begin a new → Keeps new.ledger.log h.tickets.items h.seen h.released.items (after s Begin a)
      by_answer (Begun n) simulates = same new.ledger.log (ap (λ (m : Machine). m.log) (simulates.leaves s))
      by_answer a simulates = same new.ledger.log (ap (λ (m : Machine). m.log) (simulates.leaves s))

  -- ---- a flight is committed, or not

  pub follows_committed : (new : DriverState D) (a : Answer) → new.ledger ≡ d.ledger → Simulates d Commit a new → FollowsTo s Commit a (record h { driver = new })
  follows_committed new a ledger simulates = follows_by (record h { driver = new }) Commit a simulates (by_answer a)
    where
      kept : Keeps new.ledger.log h.tickets.items h.seen h.released.items s
      kept = same new.ledger.log (ap (λ (l : LedgerState D). l.log) ledger)

      by_answer : (a : Answer) → Keeps new.ledger.log h.tickets.items h.seen h.released.items (after s Commit a)
      by_answer Committed = kept
      by_answer (Failed fault.Device) = kept
      by_answer (Failed fault.OutOfMemory) = kept
      by_answer (Failed fault.Full) = kept
      by_answer (Failed fault.Stopped) = kept
      by_answer (Failed fault.Again) = kept
      by_answer a = kept

  -- ---- a step is handed in

  module _ (new : DriverState D) (x : Step) where
    -- where this is said to the step
    said : (v : Result Verdict Refusal) (a : Answer) (tickets : Vec (Option Claim) Global) → verdict d.ledger.log x ≡ v → Simulates d (Submit x) a new → Keeps new.ledger.log tickets.items h.seen h.released.items (after_submit s x v a) → FollowsTo s (Submit x) a (record h { driver = new; tickets = tickets })
    said v a tickets judged simulates keeps =
        follows_by (record h { driver = new; tickets = tickets }) (Submit x) a simulates
        (rw (sym (verdict_is d s is follows.represents x) ∙ judged) keeps)

    -- a ticket was given
    module _ (t : Claim) (tickets : Vec (Option Claim) Global) (pushed : tickets.items ≡ h.tickets.items ++ Some t ∷ []) where
      given : (log : Log) (reply : Reply) → new.ledger.log ≡ log → HoldsTickets log (h.tickets.items ++ Some t ∷ []) (s.tickets ++ Some reply ∷ []) → HoldsTickets new.ledger.log tickets.items (s.tickets ++ Some reply ∷ [])
      given log reply now holds = rw pushed (rw now holds)

      pub follows_accepted : HandedTo d.ledger x (Ok (Accepted t)) new.ledger → Simulates d (Submit x) (answer.Accepted t.step) new → FollowsTo s (Submit x) (answer.Accepted t.step) (record h { driver = new; tickets = tickets })
      follows_accepted to simulates =
          let log = d.ledger.log in
          let more = (with_accepted d.ledger x).log in
          let claim : Claim = record { step = accepted_count log + 1; what = x; kind = to.kind } in
          let one : t ≡ claim = to.claims ∙ ap (claimed x) (reply_is log x to.kind to.judged) in
          let holds = holds_push more h.tickets.items s.tickets claim (reply_of claim) refl (granted_new log x to.kind to.judged) (holds_later log more h.tickets.items s.tickets (granted_later log x) follows.tickets) in
          said (Ok (Fresh to.kind)) (answer.Accepted t.step) tickets to.judged simulates (
            given more (record { step = t.step; kind = to.kind }) (ap (λ (l : LedgerState D). l.log) to.now)
                (rw one holds),
            (follows.seen, follows.released),
          )

      pub follows_repeated : HandedTo d.ledger x (Ok (Repeated t)) new.ledger → Simulates d (Submit x) (answer.Repeated t.step) new → FollowsTo s (Submit x) (answer.Repeated t.step) (record h { driver = new; tickets = tickets })
      follows_repeated to simulates =
          let log = d.ledger.log in
          let holds = holds_push log h.tickets.items s.tickets (claimed x to.kept) to.kept refl (granted_repeat log x to.kept to.judged) follows.tickets in
          said (Ok (Repeat to.kept)) (answer.Repeated t.step) tickets to.judged simulates (
            given log to.kept (ap (λ (l : LedgerState D). l.log) to.now) (rw to.claims holds),
            (follows.seen, follows.released),
          )

    pub follows_refused : (e : Refusal) (tickets : Vec (Option Claim) Global) → tickets.items ≡ h.tickets.items → HandedTo d.ledger x (Err e) new.ledger → Simulates d (Submit x) (answer.Refused e) new → FollowsTo s (Submit x) (answer.Refused e) (record h { driver = new; tickets = tickets })
    follows_refused e tickets stays to simulates =
        said (verdict d.ledger.log x) (answer.Refused e) tickets refl simulates (rw stays (by_verdict (verdict d.ledger.log x)))
      where
        by_verdict : (v : Result Verdict Refusal) → Keeps new.ledger.log h.tickets.items h.seen h.released.items (after_submit s x v (answer.Refused e))
        by_verdict (Ok (Fresh k)) = same new.ledger.log (ap (λ (l : LedgerState D). l.log) to.now)
        by_verdict (Ok (Repeat r)) = same new.ledger.log (ap (λ (l : LedgerState D). l.log) to.now)
        by_verdict (Err w) = same new.ledger.log (ap (λ (l : LedgerState D). l.log) to.now)

  -- ---- a flight comes back

  module _ (new : DriverState D) (releases : List Release) (given : releases ≡ settling_releases d.ledger.log (new.ledger.log.settled - d.ledger.log.settled)) where
    -- if no step is settled, none is released
    unsettled : HoldsTickets new.ledger.log h.tickets.items s.tickets → new.ledger.log.settled ≡ d.ledger.log.settled → Keeps new.ledger.log h.tickets.items h.seen (h.released.items ++ releases) s
    unsettled tickets now =
        let none : new.ledger.log.settled - d.ledger.log.settled ≡ 0 = omega (arith, now) in
        (tickets, (follows.seen, ap (λ rs. h.released.items ++ rs) (given ∙ ap (settling_releases d.ledger.log) none) ∙ append-nil h.released.items ∙ follows.released))

    by_mark : (size : ℕ) (k : Mark) → new.ledger.log ≡ log_back d.ledger.log size k → Keeps new.ledger.log h.tickets.items h.seen (h.released.items ++ releases) (after_finish s size k)
    by_mark size k now = of_mark k now (rw now (holds_later d.ledger.log (log_back d.ledger.log size k) h.tickets.items s.tickets (granted_back d.ledger.log size k) follows.tickets))
      where
        of_mark : (k : Mark) → new.ledger.log ≡ log_back d.ledger.log size k → HoldsTickets new.ledger.log h.tickets.items s.tickets → Keeps new.ledger.log h.tickets.items h.seen (h.released.items ++ releases) (after_finish s size k)
        of_mark New now tickets = unsettled tickets (ap (λ (g : Log). g.settled) now)
        of_mark Good now tickets =
            let all : new.ledger.log.settled - d.ledger.log.settled ≡ size = omega (arith, ap (λ (g : Log). g.settled) now) in (
              tickets,
              (
                follows.seen,
                (λ i. follows.released i ++ (given ∙ ap (settling_releases d.ledger.log) all) i) ∙ (λ i. s.released ++ releases_of (outs (settled_is d s is follows.represents i) (take size (pending_is d s is follows.represents i)))),
              ),
            )
        of_mark Torn now tickets = unsettled tickets (ap (λ (g : Log). g.settled) now)

    module _ (count : ℕ) (simulates : Simulates d Finish (Finished count) new) where
      landed : Keeps new.ledger.log h.tickets.items h.seen (h.released.items ++ releases) (after s Finish (Finished count))
      landed = subst (λ o. Keeps new.ledger.log h.tickets.items h.seen (h.released.items ++ releases) (finished s o)) (flight_is d s follows.represents) (by_flight (option_map flight_out d.flight) (ap (λ (m : Machine). m.log) (simulates.leaves s)))
        where
          by_flight : (o : Option FlightOut) → new.ledger.log ≡ (finished (machine_of d s) o).log → Keeps new.ledger.log h.tickets.items h.seen (h.released.items ++ releases) (finished s o)
          by_flight None now = unsettled (same new.ledger.log now).0 (ap (λ (g : Log). g.settled) now)
          by_flight (Some f) now = by_mark f.size f.mark now

      -- the machine has released as much
      pub landed_releases : IsOneOf (Finished count) (answers s Finish) × ((after s Finish (Finished count)).released ≡ h.released.items ++ releases)
      landed_releases = (represents_allowed d new s is follows.represents Finish (Finished count) simulates, sym landed.1.1)

      pub follows_landed : (released : Vec Release Global) → released.items ≡ h.released.items ++ releases → FollowsTo s Finish (Finished count) (record h { driver = new; released = released })
      follows_landed released pushed =
          follows_by (record h { driver = new; released = released }) Finish (Finished count) simulates (landed.0, (landed.1.0, pushed ∙ landed.1.1))

  -- a flight that is not taken back leaves the machine unchanged
  pub follows_not_landed : (new : DriverState D) (a : Answer) → ((t : Machine) → after t Finish a ≡ t) → Simulates d Finish a new → FollowsTo s Finish a (record h { driver = new })
  follows_not_landed new a stays simulates =
      follows_by (record h { driver = new }) Finish a simulates (subst (Keeps new.ledger.log h.tickets.items h.seen h.released.items) (sym (stays s)) (same new.ledger.log (ap (λ (m : Machine). m.log) (simulates.leaves s ∙ stays (machine_of d s)))))

  -- ---- the disk crashes

  pub follows_opened : (new : Run D) (count : ℕ) → new.tickets.items ≡ [] → new.seen ≡ 0 → new.released ≡ h.released → Simulates d Crash (Opened count) new.driver → FollowsTo s Crash (Opened count) new
  follows_opened new count none unseen same simulates =
      follows_by new Crash (Opened count) simulates (rw none tt, (unseen, ap (λ (v : Vec Release Global). v.items) same ∙ follows.released))
