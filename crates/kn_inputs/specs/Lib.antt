pub mod InputFaults
pub mod Held
pub mod Stopping
pub mod Inputs
