pub mod Lines
mod Rows
mod Heard
pub mod Orders
