pub mod Bodies
pub mod Frames
pub mod Lengths
pub mod Lowered
pub mod Programs
pub mod Statements
pub mod Variables
