pub mod Texts
pub mod Lines
pub mod Quoting
pub mod Reading
pub mod Words
