pub mod Formats
pub mod Operators
pub mod Targets
