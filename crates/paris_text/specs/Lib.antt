pub mod Operands
pub mod Pieces
pub mod Puts
