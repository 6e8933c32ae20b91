pub mod ConstantLaws
