pub mod Encodings
pub mod Cells
pub mod Machine
pub mod Folded
pub mod Kept
pub mod Points
