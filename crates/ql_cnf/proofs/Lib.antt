mod Rest
pub mod Places
pub mod Meaning
pub mod Truth
pub mod CircuitLemmas
pub mod CircuitLaws
