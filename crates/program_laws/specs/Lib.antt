pub mod Bodies
pub mod MetInstances
