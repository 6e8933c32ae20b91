pub mod Cuts
pub mod Numbers
pub mod OperandTexts
pub mod Table
pub mod Instructions
pub mod Lines
pub mod Parts
pub mod Determined
