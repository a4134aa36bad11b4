pub mod Goals
pub mod Targets
pub mod Outcome
pub mod Least
pub mod Found
pub mod Classification
pub mod Kept
pub mod Finding
