pub mod Members
pub mod Floats
pub mod Targets
pub mod ShownLaws
mod Report
