-- Definitions that only the function bodies of this crate use.
pub mod Holding
