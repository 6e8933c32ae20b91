pub mod EveryUnit
