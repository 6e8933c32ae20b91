pub mod Fit
pub mod Front
pub mod Kept
