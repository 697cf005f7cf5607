pub mod Returned
pub mod Starts
pub mod OneHistory
pub mod Runs
pub mod Worked
