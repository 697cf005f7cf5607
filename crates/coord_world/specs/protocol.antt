-- The protocol: a world, the steps that it accepts, and the effect and outputs of each.
pub mod NumberedWorld
pub mod Acceptance
pub mod InTurn
pub mod Next
pub mod Outputs
pub mod Links
pub mod Legal
pub mod Ranges
pub mod Rows
