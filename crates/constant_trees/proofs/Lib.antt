pub mod Bringing
pub mod Casts
pub mod Leaves
pub mod Nodes
pub mod Words
pub mod Written
