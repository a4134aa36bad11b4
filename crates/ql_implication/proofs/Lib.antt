pub mod Plain
pub mod Chains
pub mod Same
pub mod OfPrograms
mod Promises
