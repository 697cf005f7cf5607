pub mod Shown
pub mod Printed
