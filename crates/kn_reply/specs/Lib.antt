pub mod Logs
pub mod Replies
pub mod Laws
pub mod Gathering
pub mod Plain
