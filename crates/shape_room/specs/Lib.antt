pub mod CallOrders
pub mod Counted
pub mod RoomInParts
