pub mod Runs
pub mod Begun
pub mod Output
