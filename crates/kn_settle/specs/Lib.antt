pub mod Counters
pub mod QuerySystem
pub mod FirstLevels
pub mod Blank
pub mod Reach
