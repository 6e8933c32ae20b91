pub mod Views
pub mod Told
pub mod Steps
pub mod Passes
pub mod Rises
pub mod Workers
pub mod Calls
pub mod Rest
