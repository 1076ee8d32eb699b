pub mod CommandWords
pub mod WordSplits
pub mod GenWords
pub mod ClapLaws
pub mod Texts
