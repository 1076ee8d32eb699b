pub mod Gathering
pub mod Logs
pub mod LogParts
