pub mod Written
pub mod Shifts
pub mod Words
