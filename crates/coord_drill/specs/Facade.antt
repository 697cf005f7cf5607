-- The definitions of this crate that its proofs and the crates above it use.
pub use Rattle.coord_types.specs.declared.refusals.Refusal.{Refusal}
pub use Rattle.coord_types.specs.declared.steps.Reply.{Reply}
pub use Rattle.coord_types.specs.declared.steps.Step.{Step}
pub use Rattle.coord_world.specs.declared.verdicts.Verdict.{Verdict}
pub use Rattle.coord_world.specs.declared.verdicts.Verdict.TheVariants.{Fresh, Repeat}
pub use Rattle.coord_ledger.specs.declared.events.Answer.{Answer}
pub use Rattle.coord_ledger.specs.declared.events.Event.{Event}
pub use Rattle.coord_ledger.specs.declared.events.Answer.TheVariants.{Accepted, Begun, Committed, Finished, Nothing, Opened, Refused, Repeated}
pub use Rattle.coord_ledger.specs.declared.release.Release.{Release}
pub use Rattle.coord_drill.specs.declared.asked.Asked.{Asked}
pub use Rattle.coord_drill.specs.declared.request.Request.{Request}
pub use Rattle.coord_drill.specs.declared.console.Console.{Console}
pub use Rattle.coord_drill.specs.declared.drill.Drill.{Drill}
pub use Rattle.coord_drill.specs.declared.fault.Fault.{Fault}
pub use Rattle.coord_drill.specs.declared.drill.flying.Flown.{Flown}
pub use Rattle.coord_drill.specs.Faults.{IsOfDisk, IsOfMemory, IsOfWork, IsOfWriting, IsPassingFault, MayCutShort, MayEnd, MayEndBy, failed_by, opens_disk, reopen_fault, store_fault}
pub use Rattle.coord_drill.specs.Asked.{asked}
pub use Rattle.coord_drill.specs.Drill.{DrillState, after_asked, drill_over, flight_events, landing_events, line_events, machine_of, seen_as, step_events}
pub use Rattle.coord_drill.specs.Printed.{bad_line, count_line, fault_line, idle_line, opened_line, output_line, output_lines, pending_line, refusal_line, reply_line, settled_lines}
pub use Rattle.coord_drill.specs.Answered.{IsAnswered, Responds, asked_lines, flight_lines, kept_line}
pub use Rattle.coord_drill.specs.Drilled.{LineResponds, Prints, UnlessSkipped, asked_by, is_skipped}
pub use Rattle.coord_drill.specs.Reported.{flight_answered, reported_by}
pub use Rattle.coord_drill.specs.Holding.{AreGranted, FlownTo, IsEmptyLog, IsHeld, IsReadyDrill, IsReadyWith, Lands, Settles, Reports, after_step, claims_of, collected_lines, drill_of, flown_answers, flown_lines, front_of, landed_answers, left, left_by, released_lines, state_of, waiting}
pub use Rattle.coord_drill.specs.Course.{BrokeOff, Course, CutShort, DrillEnded, DrillFails, Drills, FirstCutShort, GivesEmpty, Goes, IsLeftBy, IsSettled, LineCutShort, LineGoes, Moves, NotMade, Place, RaisesEmpty, RunsOn, RunsTo, StopsDrill, StopsWork, asked_in, start, reported_in}
pub use Rattle.coord_drill.specs.Moments.{Begins, Carries, CarriesIf, Cuts, CutsIf, Flies, GivesRaised, GivesUpInCrash, GoesBy, Hands, IsBegun, IsMade, LacksMemory, Leads, LeadsBy, LeadsPart, Led, LineIsPromised, RaisesPart, RaisesTo, Stands}
pub use Rattle.coord_drill.specs.Lines.{Breaks, CarriesLine, CarriesOut, CutsLine, EndsEarly, EndsWith, LinesBreakOff, StandsAt, TakesPiece}
pub use Rattle.coord_drill.specs.Written.{Exchanges, InOut, IsShortPart, WritesPart, WritesShort}
