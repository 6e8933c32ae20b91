pub mod BegunElements
pub mod ClearedFields
pub mod ElementFinals
pub mod LengthRows
pub mod LoopPlaces
pub mod RestoredContexts
pub mod StatementRows
pub mod UnitsPushed
