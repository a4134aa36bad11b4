pub mod BitLaws
pub mod Closures
mod LastLaws
pub mod RowLaws
pub mod SearchLaws
pub mod TableLaws
