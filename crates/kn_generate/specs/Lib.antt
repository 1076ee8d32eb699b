pub mod Generated
pub mod Measured
pub mod Laws
