pub mod Casts
pub mod Laws
pub mod Places
