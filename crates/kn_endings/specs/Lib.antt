pub mod AskEndings
pub mod CheckEndings
pub mod VerifyEndings
pub mod FollowEndings
pub mod GenLine
