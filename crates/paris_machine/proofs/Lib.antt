pub mod Applied
pub mod Bound
pub mod Cut
pub mod CutRuns
pub mod Following
pub mod Same
