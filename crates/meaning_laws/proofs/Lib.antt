pub mod Expressions
pub mod Parts
pub mod Programs
pub mod Statements
