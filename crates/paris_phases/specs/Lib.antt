pub mod Doing
pub mod Families
pub mod Machines
pub mod Workers
