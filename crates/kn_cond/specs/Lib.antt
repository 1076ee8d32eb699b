pub mod Meaning
pub mod Programs
pub mod Kept
pub mod Results
pub mod Joining
