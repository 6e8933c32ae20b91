pub mod Draws
pub mod Text
