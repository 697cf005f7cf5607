pub mod protocol
pub mod laws
pub mod code
pub mod Facade
