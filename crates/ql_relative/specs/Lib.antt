pub mod Keeping
pub mod Relative
pub mod OfPrograms
