pub mod Composed
pub mod Deferrals
pub mod Passing
pub mod Settled
pub mod Sources
