-- The course of a drill: what it prints and what its disk holds while it reads its input.
--
-- A place of a drill consists of its state; the lines carried out so far; their output; the steps whose
-- reply, packet or signal that output shows; the event machine since the drill began; and the disk. The trail
-- of that machine is the accepted steps over the empty world, except the steps that a crash has lost.
--
-- A line leads from one place to the next (`LineGoes`). Its output and the state after it depend only on the
-- answers to its events. These events are a run of the ledger's machine on the disk (`RunsOn`), and the
-- headline holds at each moment of that run (`EachMoment`). After the line, each step with visible output is
-- settled (`settled`), before the writer gets a byte of the output. So whatever a crash may leave from then
-- on includes that step (`PrintedSurvives`). The line `version 2` is not an event: it migrates the empty
-- store, and at each moment of the migration the bytes give the empty world in version 1 or in version 2.
--
-- `Goes` states this for one line after another, and `Course` for lines from the creation of the store on the
-- given disk. If a drill reaches the end of its input, its course has all lines of the input, all their
-- output was written, and the drill returns the disk at the end of the course (`DrillEnded`). If a drill
-- fails, its course has the lines that were carried out. `StopsDrill` then states why no more lines were
-- carried out, how much of their output was written, and which disk the drill returns (`BrokeOff`).
use Rattle.std.specs.Prelude.{◌≡◌, ◌⊎◌, ℕ, ◌+◌, ◌≤◌, true, List, [], ◌∷◌, ◌++◌, length, take, option_map, Option, Some, None, if◌then◌else◌}
use Rattle.std.specs.List.{AllByRecursion}
use Rattle.coord_disk.specs.Model.Moments.{IsUntouched, LeavesOnly}
use Rattle.coord_disk.specs.Model.DiskModel.{DiskModel}
use Rattle.coord_lines.specs.Lines.{Line, lines_of}
use Rattle.coord_store.specs.Facade.{Recovered}
use Rattle.coord_store.specs.Kept.{made}
use Rattle.coord_store.specs.Refused.{RefusesCreate}
use Rattle.coord_store.specs.declared.faults.StoreFault.{StoreFault}
use Rattle.coord_store.specs.declared.faults.StoreFault.TheVariants.{NotEmpty}
use Rattle.coord_world.specs.Facade.{Legal, no_world}
use Rattle.coord_ledger.specs.declared.events.Answer.{Answer}
use Rattle.coord_ledger.specs.declared.events.Event.{Event}
use Rattle.coord_ledger.specs.Facade.{Answered, CrashPrefix, EachMoment, EventInRange, Machine, Reopens, Survives, adopted, failed_until, front_world, run, settled_count}
use Rattle.coord_drill.specs.Asked.{asked}
use Rattle.coord_drill.specs.Drill.{DrillState, drill_over, line_events}
use Rattle.coord_drill.specs.Drilled.{LineResponds, asked_by, is_skipped}
use Rattle.coord_drill.specs.Faults.{IsOfMemory, IsOfWriting, MayCutShort, failed_by, opens_disk, store_fault}
use Rattle.coord_drill.specs.Reported.{reported_by}
use Rattle.coord_drill.specs.Written.{InOut, IsShortPart, Exchanges}
use Rattle.coord_drill.specs.declared.asked.Asked.{Asked}
use Rattle.coord_drill.specs.declared.asked.Asked.TheVariants.{Crash, Version2}
use Rattle.coord_lines.specs.declared.limits.TheConstants.{MOST_READS}
use Rattle.coord_drill.specs.declared.drill.TheConstants.{HALF_SIZE}
use Rattle.coord_drill.specs.declared.fault.Fault.{Fault}
use Rattle.coord_drill.specs.declared.fault.Fault.TheVariants.{Read, TooManyReads}

pub record Place (D : Type 0) : Type 0 where
  pub state : DrillState
  pub lines : ℕ  -- the number of lines carried out
  pub printed : List ℕ  -- the output of these lines
  pub reported : List ℕ  -- the steps that the output shows
  pub machine : Machine  -- the event machine since the drill began, or since its line `version 2`
  pub disk : D

-- the place at which a drill begins, once its store was created on this disk
abbrev pub start : {D : Type 0} → D → Place D
start disk = record { state = drill_over (no_world 1); lines = 0; printed = []; reported = []; machine = adopted (no_world 1); disk = disk }

-- These steps are settled.
abbrev pub IsSettled : Machine → List ℕ → Type 0
IsSettled s reported = AllByRecursion (λ n. n ≤ settled_count s.log) reported

-- ---- requests

-- the request of a line; None if the line is skipped or bad
abbrev pub asked_in : DrillState → Line → Option Asked
asked_in s None = None
asked_in s (Some line) = if is_skipped line then None else option_map (asked (front_world s.log)) (asked_by s line)

abbrev pub reported_in : DrillState → Option Asked → List Answer → List ℕ
reported_in s None given = []
reported_in s (Some a) given = reported_by s a given

-- These events, with answers that the machine may give, are a run of the machine on a disk, from the state
-- `old` of the disk to the state `new`. The device has failed exactly in the commits that report a failure.
pub record RunsOn {D : Type 0} (disk : DiskModel D) (crashes : D → D → Type 0) (s : Machine) (events : List Event) (given : List Answer) (old new : D) : Type 0 where
  pub in_range : AllByRecursion EventInRange events
  pub answered : Answered s events given
  pub moments : EachMoment disk crashes true s events given old new
  pub failed : disk.failures new ≡ disk.failures old + failed_until events given

-- These events take the drill from the place p to the place q.
abbrev pub RunsTo : {D : Type 0} → DiskModel D → (D → D → Type 0) → List Event → List Answer → Place D → Place D → Type 0
RunsTo disk crashes events given p q = (q.machine ≡ run p.machine events given) × RunsOn disk crashes p.machine events given p.disk q.disk

-- These bytes give the world of this version without any step, and that world is legal.
abbrev pub GivesEmpty : ℕ → List ℕ → Type 0
GivesEmpty version bytes = Recovered bytes (no_world version) × Legal (no_world version)

-- During the migration of the empty store, the disk gives the empty world in version 1 or in version 2 at
-- each moment.
abbrev pub RaisesEmpty : {D : Type 0} → DiskModel D → D → D → Type 0
RaisesEmpty disk old new = LeavesOnly disk old new (λ bytes. GivesEmpty 1 bytes ⊎ GivesEmpty 2 bytes)

-- This request takes the drill from the place p to the place q.
abbrev pub Moves : {D : Type 0} → DiskModel D → (D → D → Type 0) → Option Asked → List Answer → Place D → Place D → Type 0
Moves disk crashes None given p q = RunsTo disk crashes [] given p q
Moves disk crashes (Some Version2) given p q = (q.machine ≡ adopted (no_world 2)) × RaisesEmpty disk p.disk q.disk × (disk.failures q.disk ≡ disk.failures p.disk)
Moves disk crashes (Some a) given p q = RunsTo disk crashes (line_events p.state.holds a given) given p q

-- ---- lines

-- This line takes the drill from the place p to the place q.
pub record LineGoes {D : Type 0} (disk : DiskModel D) (crashes : D → D → Type 0) (p : Place D) (line : Line) (q : Place D) : Type 0 where
  pub given : List Answer
  pub text : List ℕ
  pub responds : LineResponds p.state (p.lines + 1) line given text q.state
  pub lines : q.lines ≡ p.lines + 1
  pub printed : q.printed ≡ p.printed ++ text
  pub reported : q.reported ≡ p.reported ++ reported_in p.state (asked_in p.state line) given
  pub settled : IsSettled q.machine q.reported
  pub moves : Moves disk crashes (asked_in p.state line) given p q

-- These lines lead from one place to another. At each place, whatever the disk may hold after a crash
-- survives (`CrashPrefix`).
abbrev pub Goes : {D : Type 0} → DiskModel D → (D → D → Type 0) → Place D → List Line → Place D → Type 0
Goes disk crashes p [] q = (q ≡ p) × CrashPrefix p.machine true (disk.present p.disk)
Goes {D} disk crashes p (l ∷ ls) q = (next : Place D) × LineGoes disk crashes p l next × Goes disk crashes next ls q

-- These lines lead to this place from a store that was just created on the given disk.
pub record Course {D : Type 0} (disk : DiskModel D) (crashes : D → D → Type 0) (given : D) (lines : List Line) (place : Place D) : Type 0 where
  pub begun : D
  pub made : disk.present begun ≡ made HALF_SIZE 1
  pub unfailed : disk.failures begun ≡ disk.failures given
  pub goes : Goes disk crashes (start begun) lines place

-- ---- the end

-- All lines of the input were carried out, all their output was written, and this disk is returned.
pub record DrillEnded {D : Type 0} (disk : DiskModel D) (crashes : D → D → Type 0) (given : D) (input written : List ℕ) (last : D) : Type 0 where
  pub place : Place D
  pub course : Course disk crashes given (lines_of input) place
  pub wrote : written ≡ place.printed
  pub given_back : last ≡ place.disk

-- The request was cut short. Some of its events had led to this machine and the disk `mid`, and the drill
-- returns the disk `lost`. The two disks are the same except in two cases: a crash may already have chosen an
-- image, and a migration stopped at some moment.
abbrev pub IsLeftBy : {D : Type 0} → DiskModel D → (D → D → Type 0) → Asked → Machine → D → D → Type 0
IsLeftBy disk crashes Crash s mid lost = (lost ≡ mid) ⊎ Reopens disk crashes (Survives s) mid lost
IsLeftBy disk crashes Version2 s mid lost = RaisesEmpty disk mid lost
IsLeftBy disk crashes a s mid lost = lost ≡ mid

-- A line with this request was cut short: this fault and this disk are returned. The device has failed as
-- often as the fault implies.
pub record CutShort {D : Type 0} (disk : DiskModel D) (crashes : D → D → Type 0) (p : Place D) (a : Asked) (refused : Fault × D) : Type 0 where
  pub cause : MayCutShort (opens_disk a) refused.0
  pub none_reported : a ≡ Version2 → IsSettled (adopted (no_world 2)) p.reported  -- no step is shown: the world is empty
  pub given : List Answer  -- the answers so far
  pub mid : D
  pub runs : RunsOn disk crashes p.machine (take (length given) (line_events p.state.holds a given)) given p.disk mid
  pub left : IsLeftBy disk crashes a (run p.machine (take (length given) (line_events p.state.holds a given)) given) mid refused.1
  pub failed : disk.failures refused.1 ≡ disk.failures mid + failed_by refused.0

-- The line with this request was cut short. If the line has no request, memory for its output ran out.
abbrev pub LineCutShort : {D : Type 0} → DiskModel D → (D → D → Type 0) → Place D → Option Asked → Fault × D → Type 0
LineCutShort disk crashes p None refused = IsOfMemory refused.0 × (refused.1 ≡ p.disk)
LineCutShort disk crashes p (Some a) refused = CutShort disk crashes p a refused

-- The first of these lines was cut short.
abbrev pub FirstCutShort : {D : Type 0} → DiskModel D → (D → D → Type 0) → Place D → List Line → Fault × D → Type 0
FirstCutShort disk crashes p [] refused = ⊥
FirstCutShort disk crashes p (l ∷ ls) refused = LineCutShort disk crashes p (asked_in p.state l) refused

-- ---- why the lines after a place were not carried out, and which disk is returned

-- The input could not be read to its end. All output is written. Only the last line is left, because its line
-- feed did not arrive.
pub record StopsReading {D : Type 0} (p : Place D) (others : List Line) (written : List ℕ) (refused : Fault × D) : Type 0 where
  pub cause : (refused.0 ≡ Read) ⊎ (refused.0 ≡ TooManyReads)
  pub wrote : written ≡ p.printed
  pub unended : length others ≡ 1
  pub same : refused.1 ≡ p.disk

-- The first of the remaining lines was cut short by the returned fault. All output before it is written.
pub record StopsAtLine {D : Type 0} (disk : DiskModel D) (crashes : D → D → Type 0) (p : Place D) (others : List Line) (written : List ℕ) (refused : Fault × D) : Type 0 where
  pub wrote : written ≡ p.printed
  pub cut : FirstCutShort disk crashes p others refused

-- Some of the output could not be written. By then another fault may already have cut short the first of the
-- remaining lines.
pub record StopsWriting {D : Type 0} (disk : DiskModel D) (crashes : D → D → Type 0) (p : Place D) (others : List Line) (written : List ℕ) (refused : Fault × D) : Type 0 where
  pub cause : IsOfWriting refused.0
  pub wrote : IsShortPart written p.printed
  pub given_back : (refused.1 ≡ p.disk) ⊎ ((why : Fault) × FirstCutShort disk crashes p others (why, refused.1))

-- All lines were carried out and their output was written, but flushing the writer failed.
pub record StopsFlushing {D : Type 0} (p : Place D) (others : List Line) (written : List ℕ) (refused : Fault × D) : Type 0 where
  pub cause : IsOfWriting refused.0
  pub wrote : written ≡ p.printed
  pub ended : others ≡ []
  pub same : refused.1 ≡ p.disk

-- A line or the writer stopped the drill.
abbrev pub StopsWork : {D : Type 0} → DiskModel D → (D → D → Type 0) → Place D → List Line → List ℕ → Fault × D → Type 0
StopsWork disk crashes p others written refused = StopsAtLine disk crashes p others written refused ⊎ StopsWriting disk crashes p others written refused

-- A line, the writer, the input or the end of the input stopped the drill.
abbrev pub StopsDrill : {D : Type 0} → DiskModel D → (D → D → Type 0) → Place D → List Line → List ℕ → Fault × D → Type 0
StopsDrill disk crashes p others written refused = StopsReading p others written refused ⊎ (StopsFlushing p others written refused ⊎ StopsWork disk crashes p others written refused)

-- The drill carried out a prefix of the input's lines, and then stopped with this fault and this disk.
-- `written` is everything that the drill wrote.
pub record BrokeOff {D : Type 0} (disk : DiskModel D) (crashes : D → D → Type 0) (given : D) (input written : List ℕ) (refused : Fault × D) : Type 0 where
  pub lines : List Line
  pub others : List Line
  pub split : lines_of input ≡ lines ++ others
  pub place : Place D
  pub course : Course disk crashes given lines place
  pub why : StopsDrill disk crashes place others written refused

-- No store was created on the given disk. A disk that was not empty is unchanged.
pub record NotMade {D : Type 0} (disk : DiskModel D) (given : D) (refused : Fault × D) : Type 0 where
  pub why : StoreFault
  pub fault_is : refused.0 ≡ store_fault why
  pub refusal : RefusesCreate (disk.present given).read HALF_SIZE why
  pub untouched : why ≡ NotEmpty → IsUntouched disk given refused.1
  pub failed : disk.failures refused.1 ≡ disk.failures given + failed_by refused.0

-- ---- a whole drill, with the states of its reader and writer

-- The input was carried out to its end, its output was written, and this disk is returned.
abbrev pub Drills : {D : Type 0} → DiskModel D → (D → D → Type 0) → D → InOut → InOut → D → Type 0
Drills disk crashes given old new last = Exchanges old new (λ seen written. DrillEnded disk crashes given seen written last)

-- The drill failed, either after some lines of the input or because no store was created. In the second case
-- nothing was read or written. If the fault is too many reads, at least `MOST_READS` bytes were read.
abbrev pub DrillFails : {D : Type 0} → DiskModel D → (D → D → Type 0) → D → InOut → InOut → Fault × D → Type 0
DrillFails disk crashes given old new refused =
    Exchanges old new (λ seen written. BrokeOff disk crashes given seen written refused × (refused.0 ≡ TooManyReads → MOST_READS ≤ length seen))
    ⊎ (NotMade disk given refused × (new ≡ old))
