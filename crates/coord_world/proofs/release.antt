-- Releases, that they stay, resent packets, and kept replies.
pub mod ResendList
pub mod Between
pub mod Trails
pub mod LaneFronts
pub mod TakeablePackets
pub mod StepOutputs
pub mod ReleaseLaw
pub mod ReleaseStays
pub mod KeptReplies
pub mod ReleasedRun
