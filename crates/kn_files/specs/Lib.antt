pub mod Lines
pub mod Literals
pub mod Pieces
pub mod Splitting
pub mod Paragraphs
