pub mod Adding
pub mod Declared
pub mod Functions
pub mod Parts
pub mod Statements
pub mod Walking
