pub mod Taking
pub mod Residues
pub mod Entries
pub mod Writing
pub mod Reading
