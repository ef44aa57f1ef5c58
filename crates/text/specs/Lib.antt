pub mod Ends
pub mod Texts
pub mod Stops
pub mod Lines
pub mod Reading
pub mod Writing
