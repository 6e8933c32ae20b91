pub mod Linked
pub mod Sets
