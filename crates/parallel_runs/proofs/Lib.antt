pub mod Finals
pub mod Runs
