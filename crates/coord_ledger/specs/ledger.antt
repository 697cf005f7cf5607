-- A ledger, a flight and a ticket as contracts see them, and how they follow the event machine.
pub mod State
pub mod Flights
pub mod Calls
pub mod DriverState
pub mod Simulates
pub mod Driver
pub mod Follows
