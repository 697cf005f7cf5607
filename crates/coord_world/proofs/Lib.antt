mod release
mod Acceptance
mod transitions
mod lanes
mod legal
mod listings
mod lists
mod ranges
mod View
mod waves
mod WorkedRuns
pub mod Facade
