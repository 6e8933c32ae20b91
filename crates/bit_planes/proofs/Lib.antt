pub mod Words
pub mod Planes
pub mod Butterfly
pub mod Numbers
