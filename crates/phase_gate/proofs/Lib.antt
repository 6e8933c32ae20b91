pub mod BlockWrites
pub mod Memories
pub mod RowBits
pub mod RowSets
