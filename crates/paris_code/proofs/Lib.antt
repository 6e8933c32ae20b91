pub mod Stacks
mod Moves
