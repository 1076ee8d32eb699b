pub mod Texts
pub mod ValueReplies
pub mod Numerals
pub mod Fronts
pub mod Forms
pub mod OneLineForms
pub mod Kinds
pub mod Apart
