pub use Rattle.kn_system.specs.Equations
pub use Rattle.kn_system.specs.Least
pub use Rattle.kn_system.specs.Proofs
pub mod Reads
pub mod Rejects
