pub mod Blocks
pub mod Lines
pub mod Padding
pub mod Positions
