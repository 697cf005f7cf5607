pub mod Turns
pub mod Kept
pub mod OneHistory
pub mod Runs
pub mod Worked
