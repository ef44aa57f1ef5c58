pub mod Products
pub mod Spaces
pub mod Pigeons
pub mod Carriers
pub mod Words
