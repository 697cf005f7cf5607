pub mod Meanings
pub mod Book
pub mod Exchange
pub mod ExactlyOnce
pub mod FoundCount
pub mod WorkedExchange
