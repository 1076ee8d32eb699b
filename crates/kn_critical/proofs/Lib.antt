pub mod Ids
pub mod Rows
pub mod Flags
pub mod LevelsWithout
pub mod BasesWithout
pub mod CriticalByLevels
pub mod CriticalSoFar
