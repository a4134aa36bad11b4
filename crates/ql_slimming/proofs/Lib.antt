pub mod Prefixes
pub mod Parts
pub mod Leaving
