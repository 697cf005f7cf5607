pub mod Calls
pub mod DiskModel
pub mod Moments
pub mod Present
pub mod RawCalls
