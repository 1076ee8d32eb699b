pub mod Requests
pub mod ScriptLoops
pub mod StandingQueries
pub mod Finding
pub mod CallRefusals
pub mod RetainedPins
