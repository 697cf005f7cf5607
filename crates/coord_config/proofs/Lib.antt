pub mod BlankTexts
pub mod Computes
pub mod ReadBack
