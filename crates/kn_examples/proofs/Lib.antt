pub mod ClauseValues
mod Affected
