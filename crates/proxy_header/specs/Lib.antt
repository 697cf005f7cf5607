pub mod Names
pub mod Fields
pub mod Headers
pub mod Scanning
