pub mod Stability
pub mod Ready
pub mod Answers
pub mod Slims
