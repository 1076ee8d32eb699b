pub mod PageLemmas
pub mod FilledLemmas
