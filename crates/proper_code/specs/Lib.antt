pub mod Control
pub mod Loops
pub mod Links
