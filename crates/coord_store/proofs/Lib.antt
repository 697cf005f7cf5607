pub mod Changing
pub mod Exclusion
pub mod Freshness
pub mod Holding
