mod AddedCalls
mod ByRules
mod CallLists
mod CallOrders
pub mod CallsInParts
mod Counting
mod MachineRoom
mod Orders
mod Products
mod Rooms
mod StatementRooms
