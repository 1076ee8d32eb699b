pub mod ExprKinds
pub mod Forests
pub mod Forms
pub mod Formulas
pub mod Kinds
pub mod Depths
pub mod Roots
pub mod Signs
