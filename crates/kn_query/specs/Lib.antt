pub mod SharedParts
pub mod SharedBases
pub mod Following
pub mod ChangedRows
pub mod Steady
pub mod KeptBases
pub mod KnownLevels
