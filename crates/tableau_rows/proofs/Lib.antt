mod Counted
mod Questions
mod Passes
mod Parts
mod Narrow
mod Words
