pub mod Passes
pub mod Passing
pub mod Waiting
