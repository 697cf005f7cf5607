-- The promises for a run of events.
pub mod Parts
pub mod Moments
pub mod Headline
pub mod Faults
pub mod Broken
