pub mod Comparisons
pub mod LowestBits
pub mod NarrowTypes
pub mod ShortFolds
pub mod SignedWords
