pub mod Shown
pub mod Reading
pub mod Worlds
