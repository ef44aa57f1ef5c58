pub mod Readings
pub mod Shown
pub mod Rows
pub mod Next
pub mod Theorem
pub mod Reached
