pub mod FitLemmas
pub mod Steps
