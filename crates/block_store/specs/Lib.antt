pub mod Fresh
pub mod Phases
pub mod Planes
pub mod Stored
