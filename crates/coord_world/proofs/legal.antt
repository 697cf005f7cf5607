-- A fresh step keeps a world legal.
pub mod TransitionKept
pub mod LinksKept
pub mod EmptyWorld
pub mod EpochsFit
pub mod NextKeepsLegal
pub mod RulesKept
pub mod Sound
pub mod SoundView
pub mod NoCycle
pub mod Versions
