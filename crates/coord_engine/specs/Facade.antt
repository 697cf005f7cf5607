-- The definitions of this crate that its proofs and the crates above it use.
pub use Rattle.coord_engine.specs.Calls.{AnswersStep, CollectsAs, IsReturnedToTicket, LedgerAndNotes, RefusesTicket, engine_verdict, note_of}
pub use Rattle.coord_engine.specs.Closing.{IsSince, RefusesClosing}
pub use Rattle.coord_engine.specs.Flights.{AnswersBegin, AnswersFlush, Begins, ComesBack, CommitsFlight, RefusesFlush}
pub use Rattle.coord_engine.specs.Named.{AreNoted, IsNamed, all_notes, notes_of}
pub use Rattle.coord_engine.specs.MonotoneLog.{Beginning, StartsWith, no_history}
pub use Rattle.coord_engine.specs.Past.{FliesAfter, FliesFrom, HasLeft, IsAfterSome, IsOnTheWay, IsPastOf, LeavesFlown, Past, StaysAlong, flown_steps, last_steps, no_past, past_in, past_of}
pub use Rattle.coord_engine.specs.Port.{AreAsked, AreHanded, IsAsked, MayAsk, MayAskAll, deliveries_of, delivery_of, step_of}
pub use Rattle.coord_engine.specs.Released.{AreOfSettled, GivesSignal, HasReadSettled, MayHand, MayPrint, first_settled}
pub use Rattle.coord_engine.specs.State.{Basis, CanHold, GuardedState, based_on, with_ledger}
pub use Rattle.coord_engine.specs.SubmittingPort.{Gathers, KeepsRest, PassesOn, Submitting, SubmitsGathered}
pub use Rattle.coord_engine.specs.Threads.{AnswersShow, AnswersTicket, AtMomentRead, AtSomeMoment, Closes, Flushes, IsLeftOf, Leaves, RefusesShow, Retires, SendsAgain, Shows}
pub use Rattle.coord_engine.specs.Working.{AddsPackets, IsOfPacket, Keeps, TakesPacket, Tries, TriesAll, Works, WorksAndTries, all_packets, waits_after}
