pub mod Scans
pub mod Literals
pub mod CutLemmas
pub mod Readings
pub mod Loads
pub mod TextLemmas
pub mod QueryLemmas
pub mod Counts
