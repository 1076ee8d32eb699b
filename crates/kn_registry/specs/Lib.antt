pub mod Callers
pub mod Passes
