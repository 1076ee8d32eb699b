pub mod Readings
pub mod Loaded
