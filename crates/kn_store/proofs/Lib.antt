pub mod LiveLemmas
pub mod SearchLemmas
pub mod LiveSetLemmas
pub mod ViewLemmas
pub mod VersionLemmas
pub mod ItemLemmas
pub mod EarlierLemmas
pub mod LogLemmas
