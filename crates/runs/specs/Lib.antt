pub mod States
pub mod Readings
pub mod Refusals
pub mod Steps
pub mod Standing
pub mod Spent
pub mod Promises
