pub mod ServeEndings
pub mod Serving
pub mod Outcomes
pub mod Calling
pub mod Generating
pub mod Specified
