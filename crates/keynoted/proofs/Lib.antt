pub mod ServeLines
pub mod ServingLaws
pub mod FileLaws
pub mod OneStatusLaws
pub mod CauseLaws
pub mod CallingLaws
pub mod GenLaws
pub mod RunLaws
