pub mod Seconds
pub mod Moments
pub mod Lines
pub mod Quotas
pub mod Laws
pub mod Pending
pub mod Audits
pub mod Tallies
