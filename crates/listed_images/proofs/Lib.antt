mod Each
pub mod SameCode
