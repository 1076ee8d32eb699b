pub mod Orders
pub mod Digits
pub mod Meanings
pub mod ProgramValues
pub mod JoinLaws
pub mod ExprDepths
