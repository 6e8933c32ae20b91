pub mod Constants
pub mod Drafts
pub mod Kinds
pub mod Layouts
pub mod Operators
