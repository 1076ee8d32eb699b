pub mod Rejections
pub mod Verdicts
pub mod Accepted
