pub mod Answering
pub mod Pages
