pub mod Rules
pub mod Steps
pub mod IdealRules
pub mod Facade
