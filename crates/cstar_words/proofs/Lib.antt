pub mod Fitting
pub mod Spelling
pub mod Whole
