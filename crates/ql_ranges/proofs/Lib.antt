mod RangeLemmas
mod Edits
pub mod Ends
mod WalkLaws
mod NeighbourLaws
mod ReachLaws
