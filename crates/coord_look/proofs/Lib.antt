pub mod Reached
pub mod Listed
pub mod Worlds
