-- The messages in transit on a lane, and the invariants of a lane through a step.
pub mod LaneNumbers
pub mod EveryLane
pub mod Transit
pub mod PlaceForTransition
