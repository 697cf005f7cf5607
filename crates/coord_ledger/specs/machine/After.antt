-- The machine after an event was answered.
use Rattle.std.specs.Prelude.{ℕ, zero, suc, ◌-◌, List, [], ◌∷◌, ◌++◌, map, take, flat_map, Option, Some, None, Result, Ok}
use Rattle.coord_types.specs.declared.outputs.Output.{Output}
use Rattle.coord_types.specs.declared.refusals.Refusal.{Refusal}
use Rattle.coord_types.specs.declared.steps.Reply.{Reply}
use Rattle.coord_types.specs.declared.steps.Step.{Step}
use Rattle.coord_store.specs.declared.faults.CommitFault.TheVariants as fault
use Rattle.coord_world.specs.declared.verdicts.Verdict.{Verdict}
use Rattle.coord_world.specs.declared.verdicts.Verdict.TheVariants.{Fresh, Repeat}
use Rattle.coord_world.specs.Facade.{StepOutcome, World, again, outs}
use Rattle.coord_ledger.specs.declared.events.Answer.{Answer}
use Rattle.coord_ledger.specs.declared.events.Answer.TheVariants.{Accepted, Repeated, Begun, Committed, Failed, Finished, Collected, Resent, Shown, Opened}
use Rattle.coord_ledger.specs.declared.events.Event.{Event}
use Rattle.coord_ledger.specs.declared.events.Event.TheVariants.{Submit, Begin, Commit, Finish, Collect, Resend, Show, Crash}
use Rattle.coord_ledger.specs.declared.mark.Mark.{Mark}
use Rattle.coord_ledger.specs.declared.mark.Mark.TheVariants.{New, Good, Torn}
use Rattle.coord_ledger.specs.declared.release.Release.{Release}
use Rattle.coord_ledger.specs.machine.Log.{Log, cut_to, pending, settled_count, settled_world, with_doubt, with_settled, with_step}
use Rattle.coord_ledger.specs.machine.Machine.{FlightOut, Machine}
use Rattle.coord_ledger.specs.machine.Submits.{verdict}

-- ---- releases

abbrev pub release_of : ℕ → Output → Release
release_of number output = record { step = number; output = output }

-- the releases of some steps: all their outputs except the replies, which are collected
abbrev pub releases_of : List StepOutcome → List Release
releases_of outcomes = flat_map (λ r. map (release_of r.reply.step) r.outputs) outcomes

-- the releases of the next b pending steps when they are settled
abbrev pub settling_releases : Log → ℕ → List Release
settling_releases log b = releases_of (outs (settled_world log) (take b (pending log)))

-- the packets that a world sends again; their step number is 0
abbrev pub resent : World → List Release
resent w = map (release_of 0) (again w)

-- ---- each event

abbrev pub with_ticket : Machine → Reply → Machine
with_ticket s reply = record s { tickets = s.tickets ++ Some reply ∷ [] }

abbrev pub after_submit : Machine → Step → Result Verdict Refusal → Answer → Machine
after_submit s x (Ok (Fresh kind)) (Accepted number) = with_ticket (record s { log = with_step s.log x }) (record { step = number; kind = kind })
after_submit s x (Ok (Repeat reply)) (Repeated number) = with_ticket s reply
after_submit s x verdict answer = s

abbrev pub marked : Mark → Option FlightOut → Option FlightOut
marked mark None = None
marked mark (Some f) = Some (record { size = f.size; mark = mark })

-- the log after a flight of b steps has returned: a good flight settles its steps, a torn flight leaves them
-- in doubt
abbrev pub log_back : Log → ℕ → Mark → Log
log_back log b New = log
log_back log b Good = with_settled log b
log_back log b Torn = with_doubt log b

-- the releases after a flight of b steps has returned: a good flight adds the outputs of its steps
abbrev pub released_back : List Release → Log → ℕ → Mark → List Release
released_back released log b New = released
released_back released log b Good = released ++ settling_releases log b
released_back released log b Torn = released

abbrev pub after_finish : Machine → ℕ → Mark → Machine
after_finish s b mark = record s { log = log_back s.log b mark; flight = None; released = released_back s.released s.log b mark }

abbrev pub finished : Machine → Option FlightOut → Machine
finished s None = s
finished s (Some f) = after_finish s f.size f.mark

abbrev pub spent : {A : Type 0} → List (Option A) → ℕ → List (Option A)
spent [] i = []
spent (t ∷ ts) zero = None ∷ ts
spent (t ∷ ts) (suc i) = t ∷ spent ts i

-- the machine after a crash that keeps n steps: the trail is cut to these steps, and of all else only the
-- releases and the collected replies remain
abbrev pub crashed : Machine → ℕ → Machine
crashed s n = record s { log = cut_to s.log n; flight = None; tickets = []; seen = 0 }

-- The machine after an event with this answer. If no line here matches the event and the answer, the machine
-- is unchanged.
abbrev pub after : Machine → Event → Answer → Machine
after s (Submit x) answer = after_submit s x (verdict s.log x) answer
after s Begin (Begun b) = record s { flight = Some (record { size = b; mark = New }) }
after s Commit Committed = record s { flight = marked Good s.flight }
after s Commit (Failed fault.Device) = record s { flight = marked Torn s.flight }
after s Finish (Finished count) = finished s s.flight
after s (Collect i) (Collected reply) = record s { tickets = spent s.tickets i; replied = s.replied ++ reply ∷ [] }
after s Resend (Resent n) = record s { released = s.released ++ resent (settled_world s.log) }
after s Show (Shown view) = record s { seen = settled_count s.log }
after s Crash (Opened count) = crashed s (count - s.log.base.count)
after s event answer = s
