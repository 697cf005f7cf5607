pub mod Computes
pub mod NoFloats
pub mod Together
pub mod Stream
pub mod Waiting
pub mod Pieces
pub mod Served
pub mod SoFar
