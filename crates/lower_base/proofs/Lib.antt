pub mod Made
pub mod Numbering
