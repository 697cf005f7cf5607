-- Definitions that only the bodies of this crate use; no crate above cites them.
pub mod NodeTransitions
pub mod Fronts
pub mod Sends
pub mod Ready
pub mod Assembly
pub mod SameWorlds
