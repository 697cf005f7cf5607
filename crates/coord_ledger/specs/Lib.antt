pub mod machine
pub mod ledger
pub mod promises
pub mod laws
pub mod code
pub mod Facade
