pub mod Advance
pub mod Closed
pub mod Elements
pub mod Entered
pub mod Left
pub mod WalkLemmas
pub mod Whole
pub mod Ordered
