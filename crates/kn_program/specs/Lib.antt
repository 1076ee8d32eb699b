pub mod Signs
pub mod Trees
pub mod Grammar
pub mod Reading
pub mod Stacking
pub mod Conditions
