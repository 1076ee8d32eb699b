pub mod Counted
pub mod Gathering
