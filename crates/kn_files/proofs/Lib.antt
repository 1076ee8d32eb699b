pub mod Rows
pub mod Splitting
pub mod TokenBoundaries
pub mod Literals
pub mod LeftOut
pub mod AtCuts
