pub mod Contexts
pub mod Unchanged
