pub mod Files
pub mod Stopped
