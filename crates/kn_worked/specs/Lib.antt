pub mod Texts
pub mod Connections
