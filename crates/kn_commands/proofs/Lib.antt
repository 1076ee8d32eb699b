pub mod GenLoads
pub mod CheckedFiles
pub mod Asked
pub mod Transcripts
