pub mod Lines
pub mod Digest
pub mod History
pub mod Start
pub mod Tag
pub mod Torn
