pub mod Sizes
pub mod Numbering
pub mod BaseRows
pub mod Narrowing
pub mod Extending
pub mod Spelling
