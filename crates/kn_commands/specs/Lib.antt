pub mod Asking
pub mod Checking
pub mod Following
pub mod Verifying
pub mod Generating
