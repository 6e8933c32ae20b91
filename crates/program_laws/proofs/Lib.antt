mod AmongCalls
pub mod Bodies
pub mod InBlocks
mod Lists
pub mod MetInstances
mod SameCalls
