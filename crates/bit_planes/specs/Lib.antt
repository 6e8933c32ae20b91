pub mod Bits
pub mod Planes
pub mod Rows
pub mod Steps
