pub mod AllBlocks
pub mod Blocks
pub mod Fetches
pub mod Fresh
pub mod Kernels
pub mod Lanes
pub mod Stores
