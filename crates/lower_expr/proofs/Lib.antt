pub mod Casts
pub mod Coordinates
pub mod Elements
pub mod Lists
pub mod Relations
pub mod Unary
