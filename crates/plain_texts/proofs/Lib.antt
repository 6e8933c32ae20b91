pub mod FewNames
pub mod PlainTrees
pub mod Words
