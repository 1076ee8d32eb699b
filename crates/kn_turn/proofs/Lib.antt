pub mod Sums
pub mod Prefixes
pub mod PassEntries
pub mod StepLemmas
pub mod SeatLemmas
pub mod PassLemmas
