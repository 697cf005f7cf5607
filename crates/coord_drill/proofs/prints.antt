-- The output for the whole input.
pub mod FirstParts
pub mod Pieces
pub mod Prints
