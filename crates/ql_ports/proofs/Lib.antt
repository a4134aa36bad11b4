pub mod Prefixes
pub mod MemoryLemmas
