pub mod Access
pub mod Resets
