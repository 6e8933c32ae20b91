pub mod Joins
pub mod Gathers
pub mod Ahead
pub mod Sums
pub mod Steps
pub mod Words
pub mod Folds
pub mod Points
