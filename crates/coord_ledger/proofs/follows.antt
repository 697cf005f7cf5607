-- How a ledger and its flight follow the event machine.
pub mod SameSteps
pub mod Granted
pub mod Kept
pub mod IsOut
pub mod Follows
pub mod FollowsAnswers
pub mod FollowsTickets
