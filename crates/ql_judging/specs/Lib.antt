pub mod Members
pub mod Verify
