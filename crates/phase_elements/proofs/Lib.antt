pub mod Checked
pub mod Coordinates
