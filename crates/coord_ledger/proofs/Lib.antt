pub mod machine
pub mod follows
pub mod runs
pub mod Simulates
