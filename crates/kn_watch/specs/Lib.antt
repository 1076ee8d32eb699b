pub mod Affected
pub mod Changes
pub mod Climbing
pub mod Found
pub mod Raising
pub mod Watched
pub mod Unaffected
