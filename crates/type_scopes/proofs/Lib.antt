pub mod FileLemmas
pub mod HeaderFaults
pub mod HeaderLemmas
pub mod LinkLemmas
pub mod RecordLemmas
