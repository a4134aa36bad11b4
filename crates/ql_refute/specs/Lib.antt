pub mod Marks
pub mod Partial
pub mod Verdict
