pub mod Pairs
pub mod Place
pub mod Places
pub mod Slots
pub mod LendsLane
pub mod Links
