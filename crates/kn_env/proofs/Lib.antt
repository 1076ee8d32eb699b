pub mod AttributeMaps
pub mod Places
pub mod Requesters
pub mod ValueNames
