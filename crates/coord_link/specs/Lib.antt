pub mod LaneMachine
pub mod Padded
pub mod Moves
pub mod WorkedRun
