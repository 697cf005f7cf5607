-- What a run keeps from event to event, to its end.
pub mod EachMoment
pub mod Calls
pub mod BreaksOff
pub mod SoFar
pub mod Ends
pub mod Answers
