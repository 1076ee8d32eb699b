pub mod NodesRead
pub mod ProofsAccepted
