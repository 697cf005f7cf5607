pub mod Arguments
pub mod Judging
pub mod Recording
pub mod Totals
