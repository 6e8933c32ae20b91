pub mod Laws
pub mod Order
pub mod Rising
pub mod Statements
pub mod Within
