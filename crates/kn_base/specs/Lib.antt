pub mod Decimal
pub mod ListWithRoom
pub mod Threshold
pub mod formers
