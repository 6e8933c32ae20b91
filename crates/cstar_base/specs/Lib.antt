pub mod Errors
pub mod Faults
pub mod Folds
pub mod Kinds
pub mod Numbers
pub mod Numerals
pub mod Operators
pub mod Orders
