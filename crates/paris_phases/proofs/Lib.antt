pub mod BlockRuns
pub mod Cells
pub mod Waits
