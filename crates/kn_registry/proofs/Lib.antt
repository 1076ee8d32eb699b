pub mod PassMoves
pub mod Crossing
pub mod StoreCrossing
