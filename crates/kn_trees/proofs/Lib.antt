pub mod Additions
pub mod Crossing
pub mod Folds
pub mod Forests
pub mod ExprKindLaws
pub mod ExprDepthLaws
pub mod Roots
