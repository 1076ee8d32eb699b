pub mod Attributes
pub mod Entries
pub mod Values
pub mod Environment
