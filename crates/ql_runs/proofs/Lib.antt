pub mod Effects
pub mod Counts
pub mod Going
pub mod WatchLaws
