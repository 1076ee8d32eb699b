pub mod NameBlocks
pub mod Chains
