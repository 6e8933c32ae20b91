pub mod Example
pub mod Fields
pub mod Fragment
pub mod Laws
