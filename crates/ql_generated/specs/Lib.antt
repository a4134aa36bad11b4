pub mod Schedules
pub mod Summaries
pub mod Soaks
