pub mod Faults
pub mod Input
pub mod Output
pub mod Files
pub mod Memory
