pub mod Queries
pub mod Conditions
pub mod Licences
pub mod Licensing
pub mod Histories
pub mod Rows
pub mod Sessions
