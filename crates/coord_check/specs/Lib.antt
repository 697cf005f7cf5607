pub mod Names
pub mod LinkEnds
pub mod Faults
