pub mod Begun
pub mod SamePrograms
pub mod OneExecution
pub mod Saying
