-- The laws of the protocol, each of which is the contract of a function of `laws`, and worked runs.
pub mod Laws
pub mod Waves
pub mod Overlaps
pub mod Drops
pub mod Trails
pub mod Between
pub mod Release
pub mod KeptReplies
pub mod WorkedSteps
pub mod ReleasedRun
pub mod Cycles
pub mod Raised
pub mod Version1
