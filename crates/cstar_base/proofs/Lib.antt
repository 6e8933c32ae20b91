pub mod BitCuts
pub mod ConversionLaws
pub mod FoldLaws
pub mod NumberLaws
pub mod OperatorLaws
