pub mod Lines
pub mod Files
pub mod Comparison
pub mod OneLine
