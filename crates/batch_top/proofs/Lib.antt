pub mod Endings
pub mod Fetching
pub mod Naming
pub mod Taking
