pub mod Explanation
pub mod Parts
