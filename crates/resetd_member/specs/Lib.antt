pub mod Status
pub mod Judgement
pub mod Orders
pub mod Files
pub mod Exports
