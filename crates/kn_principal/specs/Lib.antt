pub mod Principals
pub mod PrincipalFaults
