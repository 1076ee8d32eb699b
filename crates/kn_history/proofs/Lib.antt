pub mod Loading
pub mod Valid
pub mod Histories
pub mod Ids
pub mod Additions
pub mod Batches
pub mod Singles
pub mod Ordered
