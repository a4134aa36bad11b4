mod OfRuns
mod Saying
pub mod AtLevels
