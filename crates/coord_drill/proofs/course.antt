-- What a drill's disk goes through.
pub mod Settled
pub mod Empty
pub mod Standing
pub mod Lines
