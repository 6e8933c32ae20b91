pub mod Bringing
pub mod Constants
pub mod Faultless
pub mod Judged
pub mod OneFault
pub mod Parts
pub mod Told
pub mod Unique
