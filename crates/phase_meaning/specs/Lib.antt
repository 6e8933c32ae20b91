pub mod Apply
pub mod Gathered
pub mod Scans
pub mod Sends
pub mod Shifts
