pub mod Laws
pub mod Marking
pub mod Soundness
pub mod Steps
