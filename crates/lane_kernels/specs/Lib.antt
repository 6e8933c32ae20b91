pub mod Changes
pub mod Numbers
pub mod Kernels
pub mod Gates
pub mod Columns
