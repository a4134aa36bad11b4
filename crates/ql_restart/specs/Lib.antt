pub mod Journaled
pub mod Progress
pub mod Restarts
