pub mod Asked
pub mod Bound
pub mod Cut
pub mod Ends
pub mod Runs
