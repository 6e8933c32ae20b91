pub mod OpenExpressions
pub mod OpenFiles
pub mod OpenStatements
