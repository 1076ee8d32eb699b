pub mod Sessions
pub mod Calls
pub mod Asking
pub mod Views
pub mod Fields
pub mod Connection
pub mod OnePlace
pub mod Laws
