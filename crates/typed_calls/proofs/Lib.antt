mod Alike
mod Callees
mod ExpressionCallees
pub mod NoCycle
mod StatementCallees
