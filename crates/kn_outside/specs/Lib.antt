pub mod Asked
pub mod Faults
pub mod InMemory
pub mod Printing
pub mod Reading
pub mod Seen
pub mod SpecifiedBytes
