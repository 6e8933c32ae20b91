pub mod Finals
pub mod Laws
pub mod Reports
