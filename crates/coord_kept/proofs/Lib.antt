mod Dashes
mod Rows
pub mod Torn
