pub mod OperandLaws
pub mod Appending
