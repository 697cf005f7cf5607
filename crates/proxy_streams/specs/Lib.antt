pub mod Addresses
pub mod ServerLines
pub mod Inboxes
pub mod NumberSearches
