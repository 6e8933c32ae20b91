pub mod FlowDeclarations
pub mod FlowExpressions
pub mod FlowItems
pub mod FlowStatements
pub mod FlowTypes
pub mod Flowing
pub mod Sizes
