pub mod Counts
pub mod Entries
pub mod Views
pub mod Invariant
pub mod Passes
