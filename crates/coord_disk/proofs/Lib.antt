pub mod Copied
pub mod MomentLemmas
pub mod Overwritten
pub mod Replays
pub mod TornWrites
