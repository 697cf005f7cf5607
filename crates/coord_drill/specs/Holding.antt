-- The state of the drill's code: a ledger with its store, a ticket for each pending step, and the output.
use Rattle.std.specs.Prelude.{◌≡◌, ◌⊎◌, ℕ, ◌-◌, ◌==◌, nat_le, List, [], ◌∷◌, ◌++◌, Option, Some, None, if◌then◌else◌, Bool}
use Rattle.std.specs.List.{AllByRecursion}
use Rattle.coord_types.specs.declared.steps.Step.{Step}
use Rattle.coord_world.specs.Facade.{World, next, no_world, reply}
use Rattle.coord_ledger.specs.declared.events.Answer.{Answer}
use Rattle.coord_ledger.specs.declared.events.Answer.TheVariants.{Begun, Committed, Failed, Finished, Nothing}
use Rattle.coord_ledger.specs.declared.release.Release.{Release}
use Rattle.coord_ledger.specs.Facade.{Claim, DriverState, IsGranted, LedgerState, Log, claimed, front_world, log_over, pending, reply_of, settled_world, settling_releases}
use Rattle.coord_drill.specs.Drill.{DrillState}
use Rattle.coord_drill.specs.Printed.{commit_line, output_line, reply_line}
use Rattle.coord_drill.specs.declared.drill.Drill.{Drill}
use Rattle.coord_drill.specs.declared.drill.flying.Flown.{Flown}
use Rattle.coord_drill.specs.declared.drill.flying.Flown.TheVariants as flown

-- the claims of the tickets for these steps, if the steps are taken one after another from this world on
abbrev pub claims_of : World → List Step → List Claim
claims_of w [] = []
claims_of w (s ∷ ss) = claimed s (reply w s) ∷ claims_of (next w s) ss

-- There is one ticket for each pending step of the ledger, in order.
abbrev pub IsHeld : {D : Type 0} → LedgerState D → List Claim → Type 0
IsHeld l claims = claims ≡ claims_of (settled_world l.log) (pending l.log)

-- The driver has no flight out, and there is one ticket for each of its pending steps, in order.
abbrev pub IsReadyWith : {D : Type 0} → DriverState D → List Claim → Type 0
IsReadyWith v claims = (v.flight ≡ None) × IsHeld v.ledger claims

abbrev pub IsReadyDrill : {D : Type 0} → Drill D → Type 0
IsReadyDrill d = IsReadyWith d.driver d.tickets.items

-- the state of a drill over this ledger
abbrev pub drill_of : {D : Type 0} → LedgerState D → Bool → Bool → DrillState
drill_of l holds begun = record { log = l.log; holds = holds; has_begun = begun }

abbrev pub state_of : {D : Type 0} → Drill D → DrillState
state_of d = drill_of d.driver.ledger d.holds d.has_begun

abbrev pub front_of : {D : Type 0} → Drill D → World
front_of d = front_world d.driver.ledger.log

-- ---- the effects of calls on a ledger

-- No step was accepted: the log is the log over the empty world of version 1 or 2.
abbrev pub IsEmptyLog : Log → Type 0
IsEmptyLog log = (log ≡ log_over (no_world 1)) ⊎ (log ≡ log_over (no_world 2))

-- The steps of a flight are settled: the base is unchanged, and the outputs of the steps are released.
pub record Settles (old : Log) (releases : List Release) (new : Log) : Type 0 where
  pub base : new.base ≡ old.base
  pub released : releases ≡ settling_releases old (new.settled - old.settled)

-- A flight that was out has returned with this result.
abbrev pub Lands : Log → Flown → Log → Type 0
Lands old flown.Nothing new = ⊥
Lands old (flown.Settled releases) new = Settles old releases new
Lands old (flown.Failed fault) new = new.base ≡ old.base

-- The next steps leave in a flight, if a flight may leave, and the flight returns with this result.
abbrev pub FlownTo : Log → Flown → Log → Type 0
FlownTo old flown.Nothing new = new ≡ old
FlownTo old r new = Lands old r new

-- the answers to committing a flight and taking it back, after which this many steps are settled
abbrev pub landed_answers : Flown → ℕ → List Answer
landed_answers flown.Nothing count = []
landed_answers (flown.Settled releases) count = Committed ∷ Finished count ∷ []
landed_answers (flown.Failed fault) count = Failed fault ∷ Finished count ∷ []

-- the answers to sending out a flight of this many steps, committing it, and taking it back
abbrev pub flown_answers : Flown → ℕ → ℕ → List Answer
flown_answers flown.Nothing b count = Nothing ∷ []
flown_answers r b count = Begun b ∷ landed_answers r count

-- ---- texts

-- The new text is the old text followed by a text that satisfies P.
abbrev pub Reports : List ℕ → List ℕ → (List ℕ → Type 0) → Type 0
Reports old new P = (reported : List ℕ) × ((new ≡ old ++ reported) × P reported)

-- the releases that are left to print: the current release, if any, and the releases after it
abbrev pub left : Option Release → List Release → List Release
left None rs = []
left (Some r) rs = r ∷ rs

-- the lines of the first releases, as long as they belong to this step
abbrev pub released_lines : ℕ → ℕ → List Release → List ℕ
released_lines version n [] = []
released_lines version n (r ∷ rs) = if r.step == n then output_line version r.output ++ released_lines version n rs else []

-- the releases after the releases of this step
abbrev pub after_step : ℕ → List Release → List Release
after_step n [] = []
after_step n (r ∷ rs) = if r.step == n then after_step n rs else r ∷ rs

-- the lines of the first claims, up to the first claim with an unsettled step: for each claim its reply,
-- then the releases of its step
abbrev pub collected_lines : ℕ → ℕ → List Claim → List Release → List ℕ
collected_lines version count [] rs = []
collected_lines version count (c ∷ cs) rs = if nat_le c.step count then reply_line (reply_of c) ++ (released_lines version c.step rs ++ collected_lines version count cs (after_step c.step rs)) else []

-- the claims that remain, from the first claim with an unsettled step on
abbrev pub waiting : ℕ → List Claim → List Claim
waiting count [] = []
waiting count (c ∷ cs) = if nat_le c.step count then waiting count cs else c ∷ cs

-- ---- the output for a flight that ends with this settled world

abbrev pub flown_lines : World → Flown → List Claim → List ℕ
flown_lines w flown.Nothing claims = []
flown_lines w (flown.Settled releases) claims = collected_lines w.version w.count claims releases
flown_lines w (flown.Failed fault) claims = commit_line fault

-- the claims that remain after the flight
abbrev pub left_by : World → Flown → List Claim → List Claim
left_by w (flown.Settled releases) claims = waiting w.count claims
left_by w r claims = claims

-- If the flight settled its steps, all claims are granted.
abbrev pub AreGranted : Log → Flown → List Claim → Type 0
AreGranted log (flown.Settled releases) claims = AllByRecursion (IsGranted log) claims
AreGranted log r claims = Unit {0}
