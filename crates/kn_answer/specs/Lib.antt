pub mod Built
pub mod Located
pub mod Removed
pub mod Based
pub mod Narrowed
pub mod Unaffected
pub mod Laws
