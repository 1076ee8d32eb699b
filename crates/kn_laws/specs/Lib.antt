pub mod Least
pub mod Laws
pub mod Tested
pub mod Unaffected
