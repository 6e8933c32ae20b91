pub mod Put
pub mod Reporting
pub mod Words
