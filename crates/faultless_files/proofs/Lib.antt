pub mod Accepted
mod AlikeStatements
mod AlikeTrees
pub mod Declarations
mod ExpressionLaws
mod FileInstances
mod FileItems
mod FileShapes
mod FileVariables
pub mod Files
mod Forms
mod Lengths
mod NewNames
mod Numbered
mod SameInstances
mod SameItems
pub mod SameRooms
mod SameStatements
mod SameTrees
mod StatementForms
pub mod Statements
mod ValueTypes
