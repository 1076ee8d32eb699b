pub mod Formulas
pub mod Equations
pub mod Occurring
pub mod Proofs
pub mod Critical
pub mod Tables
pub mod Examples
