pub mod CallLaws
pub mod FaultLaws
pub mod JumpMarks
pub mod Operands
pub mod Shapes
pub mod StackLaws
pub mod Starts
pub mod StepLaws
