pub mod FieldLemmas
pub mod Showing
pub mod Readings
pub mod Answered
pub mod Places
pub mod Nodes
