pub mod Connections
pub mod Doors
pub mod Nets
pub mod InMemory
pub mod Rooms
pub mod Workers
pub mod Addresses
pub mod Posts
