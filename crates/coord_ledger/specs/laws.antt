-- The laws of the event machine, each the contract of a function of `laws`, and some runs with known results.
pub mod Laws
pub mod Commits
pub mod Rebasing
pub mod SignalsBetween
