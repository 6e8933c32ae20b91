pub mod Points
pub mod Refusing
