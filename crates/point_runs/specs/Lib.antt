pub mod Assembled
pub mod Courses
pub mod Points
pub mod Refusals
pub mod Starts
