pub mod Names
pub mod Sources
pub mod Orders
pub mod Commands
