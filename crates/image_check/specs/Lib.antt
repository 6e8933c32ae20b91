pub mod Calls
pub mod Errors
pub mod Faults
pub mod Marks
pub mod Stacks
pub mod Steps
pub mod Tables
