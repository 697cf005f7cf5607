-- The rows of a world fit together, and distinguish it from any other.
pub mod Assembled
pub mod Near
pub mod RowsOfWorldFit
