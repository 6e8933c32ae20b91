pub mod Agreement
pub mod Fragment
