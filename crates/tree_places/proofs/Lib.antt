pub mod Ending
pub mod ExpressionPlaces
pub mod Ordered
pub mod Ordering
pub mod StatementPlaces
pub mod TextPlaces
