pub mod LinesOn
mod Pieces
