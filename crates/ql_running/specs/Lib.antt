pub mod ScheduleFaults
pub mod Soundness
pub mod Runs
pub mod Forms
pub mod Stores
