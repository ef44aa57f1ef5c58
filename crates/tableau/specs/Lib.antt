pub mod Tableaus
pub mod Kept
