pub mod Followed
pub mod Accepted
pub mod Faulty
pub mod Judging
pub mod ValueReplies
pub mod Verdicts
pub mod Laws
pub mod Progress
