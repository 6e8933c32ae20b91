pub mod Actions
pub mod Completions
pub mod Hope
pub mod Parts
pub mod Readings
pub mod Verdicts
