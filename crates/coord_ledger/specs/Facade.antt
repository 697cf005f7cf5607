-- The definitions and types that the proofs and the crates above use when they refer to this crate.
pub use Rattle.coord_types.specs.declared.outputs.Output.{Output}
pub use Rattle.coord_types.specs.declared.refusals.Refusal.{Refusal}
pub use Rattle.coord_types.specs.declared.steps.Kind.{Kind}
pub use Rattle.coord_types.specs.declared.steps.Reply.{Reply}
pub use Rattle.coord_types.specs.declared.steps.Session.{Session}
pub use Rattle.coord_types.specs.declared.steps.Step.{Step}
pub use Rattle.coord_world.specs.declared.verdicts.Verdict.{Verdict}
pub use Rattle.coord_world.specs.declared.verdicts.Verdict.TheVariants.{Fresh, Repeat}
pub use Rattle.coord_ledger.specs.declared.events.Answer.{Answer}
pub use Rattle.coord_ledger.specs.declared.events.Answer.TheVariants.{Accepted, Begun, Collected, Committed, Failed, Finished, NoFlight, NoTicket, Nothing, Opened, Refused, Repeated, Resent, Shown, Waiting}
pub use Rattle.coord_ledger.specs.declared.events.Event.{Event}
pub use Rattle.coord_ledger.specs.declared.events.Event.TheVariants.{Begin, Collect, Commit, Crash, Finish, Resend, Show, Submit}
pub use Rattle.coord_ledger.specs.declared.handed.Handed.{Handed}
pub use Rattle.coord_ledger.specs.declared.mark.Mark.{Mark}
pub use Rattle.coord_ledger.specs.declared.mark.Mark.TheVariants.{Good, New, Torn}
pub use Rattle.coord_ledger.specs.declared.release.Release.{Release}
pub use Rattle.coord_ledger.specs.declared.ticket.Note.{Note}
pub use Rattle.coord_ledger.specs.declared.trace.RunFaultKind.{RunFaultKind}
pub use Rattle.coord_ledger.specs.machine.Log.{Log, accepted_count, cut_to, front_world, has_stopped, kinds_of, log_over, rebased, pending, settled_count, settled_steps, settled_world, with_doubt, with_settled, with_step, world_after}
pub use Rattle.coord_ledger.specs.machine.Submits.{is_full, unless_full, verdict}
pub use Rattle.coord_ledger.specs.machine.Machine.{FlightOut, Machine, adopted, machine_over}
pub use Rattle.coord_ledger.specs.machine.Answers.{IsOneOf, answers, kept, kept_by, kept_with, next_size, cannot_flush, ticket, to_begin, to_collect, to_commit, to_finish, to_show, to_submit, with_flight}
pub use Rattle.coord_ledger.specs.machine.After.{after, after_finish, after_submit, crashed, finished, log_back, marked, release_of, released_back, releases_of, resent, settling_releases, spent, with_ticket}
pub use Rattle.coord_ledger.specs.machine.Runs.{Answered, run}
pub use Rattle.coord_ledger.specs.machine.Consistent.{DoubtFits, EventInRange, FitsOut, FlightFits, IsConsistent, IsConsistentLog, IsReturned, TicketFits}
pub use Rattle.coord_ledger.specs.ledger.State.{Claim, FlightState, IsCollectable, IsGranted, IsInTrail, IsKeptBy, LedgerState, ledger_over, reply_of, started}
pub use Rattle.coord_ledger.specs.ledger.Flights.{GivesOneOf, HoldsFlight, ImagesGiveOneOf, IsOut, flight_out}
pub use Rattle.coord_ledger.specs.ledger.Calls.{FlightGives, GivesFlown, GivesSettled, HandedTo, LedgerGives, RefusesFlight, RefusesStep, claimed, keeps_store, next_flight, releases_in, taken_back, with_accepted, with_store_out}
pub use Rattle.coord_ledger.specs.ledger.Driver.{RunSoFar, HasFailed, DiskSurvives, DiskEffect, IsEventFault, IsLost, IsPromised, IsReopenFault, IsReopened, MayBegin, brought_home}
pub use Rattle.coord_ledger.specs.ledger.DriverState.{DriverState, IsAnew, answer_to, at_home, disk_held, disk_with, finish_answer, model_held}
pub use Rattle.coord_ledger.specs.ledger.Simulates.{Simulates, Represents, goes_to, machine_of}
pub use Rattle.coord_ledger.specs.ledger.Follows.{Follows, FollowsTo, HoldsTicket, HoldsTickets}
pub use Rattle.coord_ledger.specs.declared.event_driver.run.Run.{Run}
pub use Rattle.coord_ledger.specs.promises.Parts.{IsPartOf, released_first}
pub use Rattle.coord_ledger.specs.promises.Moments.{LeavesWithin, Reopens, touches_disk}
pub use Rattle.coord_ledger.specs.promises.Headline.{CrashPrefix, EachMoment, IsAgainOf, IsLeft, IsReplyOf, IsSafe, IsTrulyAgain, Promised, Completed, Survives, Touches, ended, found_by_crash, is_crash, is_signal}
pub use Rattle.coord_ledger.specs.promises.Faults.{failed_at, failed_in_run, failed_until, run_fault_number}
pub use Rattle.coord_ledger.specs.promises.Broken.{EndedEarly, EndsAt, HasCauseToEnd, IsCommitted, IsCutShort, IsGivenBack, IsGivenUp, IsLeftOut, IsLostInCrash, wants_memory}
