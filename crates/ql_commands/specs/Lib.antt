pub mod Sources
pub mod Levels
pub mod Classify
pub mod Certificates
pub mod Prove
pub mod Names
pub mod Check
pub mod Judging
