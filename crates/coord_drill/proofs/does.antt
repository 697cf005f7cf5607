-- The effect of a request on the drill, and its output.
pub mod Does
pub mod HandedTo
pub mod FlownTo
pub mod Settled
pub mod Verdicts
pub mod LineResponds
pub mod Moments
pub mod Reports
pub mod Cuts
pub mod Crashes
pub mod Raising
pub mod Flushes
