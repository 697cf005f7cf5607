-- The event machine: the state of a ledger, its possible answers to each event, and its state after an answer.
pub mod Log
pub mod Submits
pub mod Machine
pub mod Answers
pub mod After
pub mod Runs
pub mod Consistent
