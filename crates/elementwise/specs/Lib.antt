pub mod Blocks
pub mod Columns
pub mod Failing
pub mod Moved
pub mod Planar
pub mod Preparing
pub mod Relations
pub mod Ways
