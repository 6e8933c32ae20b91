pub mod Joining
pub mod Listed
pub mod Origins
pub mod Restoring
pub mod Steady
