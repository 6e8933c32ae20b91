pub mod Bodies
pub mod Ends
pub mod Heads
pub mod Leaving
pub mod Lists
pub mod Numbers
pub mod Reading
pub mod Same
