pub mod Numbered
pub mod Parts
pub mod Putting
