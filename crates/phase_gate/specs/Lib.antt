pub mod Blocks
pub mod Rows
pub mod Scans
pub mod Sends
