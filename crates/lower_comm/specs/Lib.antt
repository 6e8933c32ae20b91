pub mod Messages
pub mod News
