-- What the rules do at a node and to its links.
pub mod CanApply
pub mod FrontsOfSends
pub mod IsTransitionOf
pub mod KeepsLinks
pub mod RuleCases
pub mod NewFronts
