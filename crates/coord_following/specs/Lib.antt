pub mod Histories
pub mod Stores
pub mod Ledgers
pub mod Fences
