pub mod Texts
pub mod SharedParts
pub mod LaterVersions
pub mod Rows
pub mod NotedRows
pub mod SteadyLevels
pub mod KeptBaseLaws
pub mod FoundValues
