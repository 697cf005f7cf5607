-- Lists with keys, tables and sets of nodes.
pub mod GetAfter
pub mod NodeSets
pub mod TableLen
