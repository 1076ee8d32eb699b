pub mod RefusedRows
pub mod OneReason
pub mod NumberedReplies
pub mod Accepted
