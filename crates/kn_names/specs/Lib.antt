pub mod Arenas
pub mod Chains
