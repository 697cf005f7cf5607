pub mod Appended
pub mod Halves
pub mod Reading
pub mod Replaced
pub mod Texts
pub mod Writing
