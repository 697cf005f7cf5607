-- A fresh step keeps the ranges of a world.
pub mod Distances
pub mod EveryNode
pub mod InRange
pub mod NextKeepsRanges
pub mod OneGroup
