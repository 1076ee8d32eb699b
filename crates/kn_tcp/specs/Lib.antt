pub mod Accepting
pub mod Tcp
