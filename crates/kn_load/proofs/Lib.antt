pub mod Alone
pub mod Loaded
pub mod ReadResultLaws
pub mod ReadingLaws
