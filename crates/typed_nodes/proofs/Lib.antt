pub mod Cuts
pub mod Elems
pub mod Nodes
