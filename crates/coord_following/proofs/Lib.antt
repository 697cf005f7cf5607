pub mod Steps
pub mod Lives
pub mod Views
pub mod OverStores
pub mod OverLedgers
pub mod OverFences
