pub mod Batches
pub mod Endings
pub mod Words
