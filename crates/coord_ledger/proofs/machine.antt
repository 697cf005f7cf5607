-- Invariants of the event machine, for all answers to its events.
pub mod Lists
pub mod Verdicts
pub mod Logs
pub mod SignalsOnce
pub mod SignalsBetween
pub mod Replies
pub mod ConsistentSteps
pub mod ConsistentFlights
pub mod Consistent
pub mod SettledStays
pub mod Safe
pub mod Silent
pub mod Rebased
