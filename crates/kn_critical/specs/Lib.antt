pub mod Faults
pub mod Searching
